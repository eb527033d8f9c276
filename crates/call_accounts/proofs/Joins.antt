-- An account joins the table, kinds 01 and 02. Assumes nothing.
use mathlib.Core.Path.{◌≡◌, sym, ap, ◌∙◌, subst}
use mathlib.Core.List.{[], ◌∷◌, ◌++◌, map}
use Prim.Native.Nat.{◌+◌, ◌<◌}
use native.Mathlib.Omega.{arith}
use lib.ListN.{length, take, set}
use lib.Seq.{drop-set-lt}
use Rattle.rules.specs.Account as Rule
use Rattle.rules.specs.Account.{codes}
use Rattle.rules.specs.Command.{Command}
use Rattle.rules.specs.Invariant.{Invariant}
use Rattle.rules.specs.Machine.{effect, answer, with_accounts, next, if_accepted}
use Rattle.rules.proofs.Theorem.{next_keeps}
use Rattle.rules.proofs.Unique.{codes_join}
use Rattle.account.specs.declared.Account.{Account}
use Rattle.account.specs.View.{to_account}
use Rattle.table.specs.declared.Table.{Table}
use Rattle.table.specs.View.{accounts_of, machine_of}
use Rattle.table.specs.Promise.{Good, call, Called}
use Rattle.table.proofs.Called.{accepted}
use Rattle.table.proofs.Places.{append_accounts, append_codes}
use Rattle.table.specs.Promise.{Holds}

-- the table with an account more, at the place behind the last
abbrev pub joined_to : Table → Account → Table
joined_to t x = record { codes = set t.codes t.count x.code; accounts = set t.accounts t.count x; count = t.count + 1; day = t.day }

module _ (k : Command) (t : Table) (y : Rule.Account) (z : 0 ≡ answer (machine_of t) (call k)) (w : with_accounts (accounts_of t ++ (y ∷ [])) (machine_of t) ≡ effect (machine_of t) k) where
  -- an opening that is accepted keeps what holds of the machine
  pub opens : Good t → Invariant (with_accounts (accounts_of t ++ (y ∷ [])) (machine_of t))
  unfolding next if_accepted call
  opens g = subst Invariant (ap (λ n. if_accepted n (effect (machine_of t) k) (machine_of t)) (sym z) ∙ sym w) (next_keeps (machine_of t) (call k) g.inv).inv

-- an account has joined the table, and the call is accepted
pub joined : (k : Command) (t r : Table) (x : Account) (y : Rule.Account) → Holds t r (accounts_of t ++ (to_account x ∷ [])) → to_account x ≡ y → 0 ≡ answer (machine_of t) (call k)
    → with_accounts (accounts_of t ++ (y ∷ [])) (machine_of t) ≡ effect (machine_of t) k → Called k t (record { answer = 0; table = r })
joined k t r x y h e z w = accepted k t r (sym z) h.own h.beyond (h.view ∙ ap (λ a. with_accounts (accounts_of t ++ (a ∷ [])) (machine_of t)) e ∙ w)

module _ (t : Table) (g : Good t) (long : length t.accounts ≡ 64) where
  -- the place after the last
  pub one_more : (x : Account) → length t.codes ≡ 64 → t.count < 64
      → Holds t (joined_to t x) (accounts_of t ++ (to_account x ∷ []))
  unfolding accounts_of machine_of with_accounts to_account
  one_more x cl h =
      let grown : map to_account (take (t.count + 1) (set t.accounts t.count x)) ≡ accounts_of t ++ (to_account x ∷ []) = append_accounts t x (omega (arith, long)) in
      record {
        own = record {
          within = omega arith;
          same = append_codes t.codes t.count x.code (omega (arith, cl)) ∙ ap (λ l. l ++ (x.code ∷ [])) g.own.same ∙ sym (codes_join (accounts_of t) (to_account x)) ∙ sym (ap codes grown);
        };
        beyond = record { codes_stay = drop-set-lt (t.count + 1) t.codes t.count x.code (omega arith); accounts_stay = drop-set-lt (t.count + 1) t.accounts t.count x (omega arith) };
        view = ap (λ ys. with_accounts ys (machine_of t)) grown;
      }
