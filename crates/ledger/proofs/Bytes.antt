-- A call's contract fixes each byte of the lent book. Assumes nothing.
use mathlib.Core.Path.{◌≡◌, refl, sym, ap, ◌∙◌, subst}
use mathlib.Core.List.{List, [], ◌∷◌, ◌++◌, map, append_assoc, append-nil, map-append}
use Prim.Native.Nat.{ℕ, zero, suc, ◌+◌, ◌*◌, ◌≤◌}
use native.Mathlib.Omega.{arith}
use lib.ListN.{length, get_or, take, drop, take-append-drop}
use lib.Seq.{take-suc, take-add, length-take-le}
use Rattle.octets.specs.Octets.{part, write}
use Rattle.octets.proofs.Places.{write_is}
use Rattle.rules.specs.Machine.{Machine}
use Rattle.rules.specs.Message.{Entry}
use Rattle.table.specs.declared.Table.{Table}
use Rattle.book.specs.Entries.{entries_of, Behind}
use Rattle.ledger.specs.View.{view_of}
use Rattle.ledger.specs.Promise.{Sound}
use Rattle.ledger.specs.Bytes.{id_bytes, BookWritten, BookBytes}

-- ---- the entries as bytes and days

bytes_joined : (es : List Entry) (e : Entry) → id_bytes (es ++ (e ∷ [])) ≡ id_bytes es ++ e.id
unfolding id_bytes
bytes_joined [] e = append-nil e.id
bytes_joined (f ∷ es) e = ap (λ bs. f.id ++ bs) (bytes_joined es e) ∙ sym (append_assoc f.id (id_bytes es) e.id)

entries_bytes : (ids days : List ℕ) (n : ℕ) → id_bytes (entries_of ids days n) ≡ take (n * 32) ids
unfolding entries_of id_bytes part
entries_bytes ids days zero = refl
entries_bytes ids days (suc n) =
    let m : n * 32 + 32 ≡ suc n * 32 = omega arith in
    bytes_joined (entries_of ids days n) (record { id = part (n * 32) 32 ids; day = get_or days n 0 })
    ∙ ap (λ bs. bs ++ part (n * 32) 32 ids) (entries_bytes ids days n)
    ∙ sym (take-add (n * 32) 32 ids)
    ∙ ap (λ k. take k ids) m

entries_days : (ids days : List ℕ) (n : ℕ) → n ≤ length days → map (λ e. e.day) (entries_of ids days n) ≡ take n days
unfolding entries_of
entries_days ids days zero h = refl
entries_days ids days (suc n) h =
    map-append (λ e. e.day) (entries_of ids days n) (record { id = part (n * 32) 32 ids; day = get_or days n 0 } ∷ [])
    ∙ ap (λ ds. ds ++ (get_or days n 0 ∷ [])) (entries_days ids days n (omega arith))
    ∙ sym (take-suc days n 0 (omega arith))

-- ---- what stays behind the first n, and the first n themselves

over : (l l' : List ℕ) (n : ℕ) → length l' ≡ length l → n ≤ length l → drop n l' ≡ drop n l → l' ≡ write l 0 (take n l')
over l l' n e h b =
    let long : length (take n l') ≡ n = length-take-le n l' (omega arith) in
    let z : 0 + length (take n l') ≡ n = omega arith in
    sym (write_is l 0 (take n l') (omega arith) ∙ ap (λ k. take n l' ++ drop k l) z ∙ ap (λ bs. take n l' ++ bs) (sym b) ∙ take-append-drop n l')

module _ (t u : Table) (ids days : List ℕ) (used : ℕ) (ids' days' : List ℕ) (used' : ℕ) (m : Machine) where
  written : Sound t ids days used → Sound u ids' days' used' → Behind ids days ids' days' used' → view_of u ids' days' used' ≡ m → BookWritten m ids days ids' days'
  unfolding view_of
  written g s b v =
      subst (λ (x : Machine). BookWritten x ids days ids' days') v
      (record {
        ids_are =
            over ids ids' (used' * 32) (s.lengths.ids_long ∙ sym g.lengths.ids_long) (omega (arith, s.few, g.lengths.ids_long)) b.ids_stay
            ∙ ap (write ids 0) (sym (entries_bytes ids' days' used'));
        days_are =
            over days days' used' (s.lengths.days_long ∙ sym g.lengths.days_long) (omega (arith, s.few, g.lengths.days_long)) b.days_stay
            ∙ ap (write days 0) (sym (entries_days ids' days' used' (omega (arith, s.few, s.lengths.days_long))));
      })

pub book_bytes : BookBytes
book_bytes = record {
  settled = λ k t ids days used r ids' days' g p. written t r.table ids days used ids' days' r.used _ g (p.sound g) p.behind p.moves;
  played = λ cs t ids days used report r ids' days' report' g p. written t r.table ids days used ids' days' r.used _ g (p.sound g) p.behind p.moves;
}
