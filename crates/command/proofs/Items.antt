-- An item of a change, put together and taken apart as a row of a frame. Assumes nothing.
use mathlib.Core.Path.{◌≡◌, refl, sym, ap, ap₂, subst, ◌∙◌}
use mathlib.Core.Bool.{true}
use mathlib.Core.List.{List, [], ◌∷◌, ◌++◌, append-nil}
use Prim.Native.Nat.{ℕ, ◌%◌, ◌<◌}
use native.Mathlib.Omega.{arith}
use borrow.Rule.Slice.PartMut.{put_mid}
use borrow.Author.Tests.{lt-ltb}
use lib.ListN.{length, get_or, set}
use Rattle.octets.specs.Octets.{big_endian, is_bytes, is_money, money}
use Rattle.octets.proofs.Places.{bytes_at, whole_bytes}
use Rattle.frame.specs.Field.{row_fits, row_bytes, plain_fits, plain_bytes}
use Rattle.frame.specs.Frame.{item_values}
use Rattle.command.specs.declared.ChangeItem.{ChangeItem}
use Rattle.command.specs.View.{to_item}
use Rattle.command.specs.Item.{item_bytes, item_fits}

-- ten bytes, a byte behind them, and what is behind that
put_row : (a m : List ℕ) (k : ℕ) → length a ≡ 10 → put_mid 11 8 (set (a ++ (0 ∷ 0 ∷ 0 ∷ 0 ∷ 0 ∷ 0 ∷ 0 ∷ 0 ∷ 0 ∷ [])) 10 k) m ≡ a ++ (k ∷ m)
put_row a m k e =
    subst (λ (b : List ℕ). put_mid 11 8 (set (b ++ (0 ∷ 0 ∷ 0 ∷ 0 ∷ 0 ∷ 0 ∷ 0 ∷ 0 ∷ 0 ∷ [])) 10 k) m ≡ b ++ (k ∷ m)) (sym (whole_bytes 9 a e))
    (ap (λ (t : List ℕ). (get_or a 0 0 ∷ bytes_at a 0 1 9) ++ (k ∷ t)) (append-nil m))

pub put_item : (i : ChangeItem) → length i.account ≡ 10 → i.kind < 256
    → put_mid 11 8 (set (i.account ++ (0 ∷ 0 ∷ 0 ∷ 0 ∷ 0 ∷ 0 ∷ 0 ∷ 0 ∷ 0 ∷ [])) 10 i.kind) (money i.value) ≡ item_bytes i
unfolding item_bytes row_bytes plain_bytes item_values to_item big_endian
put_item i a k =
    let e : i.kind ≡ i.kind % 256 = omega arith in
    put_row i.account (money i.value) i.kind a ∙ ap₂ (λ (n : ℕ) (m : List ℕ). i.account ++ (n ∷ m)) e (sym (append-nil (money i.value)))

pub put_fits : (i : ChangeItem) → is_bytes 10 i.account ≡ true → i.kind < 256 → is_money i.value ≡ true → item_fits i ≡ true
unfolding item_fits row_fits plain_fits item_values to_item
put_fits i a k v = rw (a, lt-ltb i.kind 256 k, v) refl
