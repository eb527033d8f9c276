-- A code in bytes: six digits one after the other. Assumes nothing.
use mathlib.Core.Path.{◌≡◌, sym, ap, ◌∙◌}
use mathlib.Core.Bool.{Bool, ◌&&◌, and-true}
use mathlib.Core.List.{List}
use Prim.Native.Nat.{ℕ}
use lib.ListN.{length, get_or}
use Rattle.octets.proofs.Places.{whole_bytes}
use Rattle.rules.specs.Command.{every}
use Rattle.rules.specs.Message.{is_digit}
use Rattle.frame_fields.specs.Place.{six_digits}

-- six digits are six bytes that are digits
pub six_digits_lem : (ds : List ℕ) → length ds ≡ 6 → six_digits ds 0 ≡ every is_digit ds
unfolding six_digits every
six_digits_lem ds e =
    sym
    (ap (every is_digit) (whole_bytes 5 ds e)
    ∙ ap (λ (t : Bool). is_digit (get_or ds 0 0) && (is_digit (get_or ds 1 0) && (is_digit (get_or ds 2 0) && (is_digit (get_or ds 3 0) && (is_digit (get_or ds 4 0) && t)))))
    (and-true (is_digit (get_or ds 5 0))))
