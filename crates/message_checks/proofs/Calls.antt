-- What a change or a deletion has to show: its answer from the two parts of the checks, and the record after it. Assumes nothing.
use Rattle.std.proofs.Common.{arith, ◌≡◌, refl, sym, ap, ◌∙◌, subst, ℕ, ◌+◌, ◌<◌, Bool, List, length, map, take, drop, Result, Err}
use lib.Dec.{T}
use Rattle.rules.specs.Account as Rule
use Rattle.rules.specs.Account.{codes}
use Rattle.rules.specs.Command.{Header, Command}
use Rattle.rules.specs.Machine.{with_id, checks, effect, answer, first_failure}
use Rattle.rules.proofs.Checks.{numbered, early, late}
use Rattle.account.specs.declared.Account.{Account}
use Rattle.account.specs.View.{to_account}
use Rattle.refusal.specs.declared.Refusal.{Refusal}
use Rattle.refusal.specs.Answer.{number}
use Rattle.refusal.proofs.Numbers.{no_zero}
use Rattle.table.specs.declared.Table.{Table}
use Rattle.table.specs.Promise.{OwnCodes, Kept, Beyond}
use Rattle.table.specs.View.{accounts_of}
use Rattle.book.specs.declared.Book.{Book}
use Rattle.book.specs.Entries.{Added}
use Rattle.ledger.specs.declared.Ledger.{Ledger}
use Rattle.ledger.specs.View.{view_of, ledger_view}
use Rattle.ledger.specs.Promise.{SoundLedger, Settled, Settles}
use Rattle.ledger.proofs.Laws.{good_table, settled_no, settled_yes, noted}

-- what a call k on the record l has to show, where it leaves the table u and the book b: they hold what their types say, and are what it promises
abbrev pub Takes : Command → Ledger → Table → Book → Type 0
Takes k l u b = Kept u × SoundLedger (record { table = u; book = b }) × Settled k l.table l.book.ids l.book.days l.book.used (record { answer = 0; table = u; used = b.used }) b.ids b.days

module _ (k : Command) (l : Ledger) where
  abbrev pub tests : List (ℕ × Bool)
  tests = checks (view_of l.table l.book.ids l.book.days l.book.used) 0 k

  module _ {X : Type 0} (n : ℕ) where
    -- one of the first n checks fails
    pub refused_first : (r : Result X Refusal) (e : Refusal) → r ≡ Err e → number e ≡ first_failure (take n tests) → Settles k l r l
    unfolding answer
    refused_first r e q f =
        subst (λ x. Settles k l x l) (sym q) (settled_no k l.table l.book.ids l.book.days l.book.used (number e) (early n tests (number e) f (no_zero e)) (no_zero e))

  module _ (n : ℕ) (m : T (numbered (take n tests))) (z : 0 ≡ first_failure (take n tests)) where
    -- they pass, and one of the others fails
    pub refused_later : {X : Type 0} (r : Result X Refusal) (e : Refusal) → r ≡ Err e → number e ≡ first_failure (drop n tests) → Settles k l r l
    unfolding answer
    refused_later r e q f =
        subst (λ x. Settles k l x l) (sym q) (settled_no k l.table l.book.ids l.book.days l.book.used (number e) (f ∙ late n tests m (sym z)) (no_zero e))

    -- all pass: the accounts of the table are arr, with the limits set as f says, and the id is in the book. The record l is opened as v, its table as t
    pub taken : {v : Ledger} {t : Table} → v ≡ l → SoundLedger v → t ≡ v.table → 0 ≡ first_failure (drop n tests) → l.book.used < 1024 → (f : List Rule.Account → List Rule.Account) (arr : List Account) (h : Header) (b : Book)
        → OwnCodes t.codes t.count (map to_account (take t.count arr)) → length arr ≡ 64 → drop t.count arr ≡ drop t.count t.accounts → map to_account (take t.count arr) ≡ f (accounts_of t)
        → Added v.book.ids v.book.days v.book.used h.id v.table.day b.ids b.days → b.used ≡ v.book.used + 1 → with_id h (f (accounts_of l.table)) (ledger_view l) ≡ effect (ledger_view l) k
        → Takes k l (record { codes = t.codes; accounts = arr; count = t.count; day = t.day }) b
    unfolding answer ledger_view accounts_of
    taken {v} {t} o g p rest room f arr h b own long left set added used w =
        let u : Table = record { codes = t.codes; accounts = arr; count = t.count; day = t.day } in
        let opened : t ≡ l.table = p ∙ ap (λ (x : Ledger). x.table) o in
        let apart : Beyond t u = record { codes_stay = refl; accounts_stay = left } in
        let joined : Added l.book.ids l.book.days l.book.used h.id l.table.day b.ids b.days = rw o at added in
        let settled : Settled k l.table l.book.ids l.book.days l.book.used (record { answer = 0; table = u; used = b.used }) b.ids b.days =
        rw (used, o)
        (settled_yes k l.table l.book.ids l.book.days l.book.used u b.ids b.days (l.book.used + 1) (sym (rest ∙ late n tests m (sym z))) own (omega (arith, room)) joined.lengths joined.behind
        (subst (λ (x : Table). Beyond x u) opened apart)
        (noted l.table u l.book.ids l.book.days l.book.used b.ids b.days h (f (accounts_of l.table)) (ap (λ (x : Table). x.day) opened) (set ∙ ap (λ (x : Table). f (accounts_of x)) opened) joined ∙ w)) in
        let sound = settled.sound (rw o at g) in
        (record { good = good_table u b.ids b.days b.used sound; long = long }, sound, settled)
