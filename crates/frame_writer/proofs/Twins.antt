-- The frames of the kinds that have the same fields. Assumes nothing.
use mathlib.Core.Path.{◌≡◌, ap}
use mathlib.Core.Bool.{true, cond}
use mathlib.Core.List.{List, [], ◌∷◌, ◌++◌, append-nil}
use Prim.Native.Nat.{ℕ}
use lib.IntN.{ℤ}
use Rattle.octets.specs.Octets.{is_money, money}
use Rattle.rules.specs.Command.{Bank, Funding, Withdrawal, Mark, is_code, well_formed}
use Rattle.rules.specs.Message.{digits}
use Rattle.frame.specs.Field.{plain_bytes, bytes_of, all_bytes}
use Rattle.frame.specs.Frame.{kind_byte, fields_of, kind_of, values_of, frame_of, command_frame}
use Rattle.command.proofs.Forms.{funding_formed, withdrawal_formed}

pub bank_frame : (c : ℕ) → command_frame (Bank c ∷ []) ≡ cond (is_code c) (1 ∷ digits 6 c) []
unfolding command_frame well_formed frame_of kind_of kind_byte fields_of values_of all_bytes bytes_of
bank_frame c = ap (λ (t : List ℕ). cond (is_code c) (1 ∷ t) []) (append-nil (digits 6 c))

pub mark_frame : (c : ℕ) → command_frame (Mark c ∷ []) ≡ cond (is_code c) (19 ∷ digits 6 c) []
unfolding command_frame well_formed frame_of kind_of kind_byte fields_of values_of all_bytes bytes_of
mark_frame c = ap (λ (t : List ℕ). cond (is_code c) (19 ∷ t) []) (append-nil (digits 6 c))

pub funding_frame : (c : ℕ) (a : ℤ) → is_money a ≡ true → command_frame (Funding c a ∷ []) ≡ cond (is_code c) (3 ∷ (digits 6 c ++ money a)) []
unfolding command_frame frame_of kind_of kind_byte fields_of values_of all_bytes bytes_of plain_bytes
funding_frame c a h = rw (funding_formed c a h) (ap (λ (t : List ℕ). cond (is_code c) (3 ∷ (digits 6 c ++ t)) []) (append-nil (money a)))

pub withdrawal_frame : (c : ℕ) (a : ℤ) → is_money a ≡ true → command_frame (Withdrawal c a ∷ []) ≡ cond (is_code c) (4 ∷ (digits 6 c ++ money a)) []
unfolding command_frame frame_of kind_of kind_byte fields_of values_of all_bytes bytes_of plain_bytes
withdrawal_frame c a h = rw (withdrawal_formed c a h) (ap (λ (t : List ℕ). cond (is_code c) (4 ∷ (digits 6 c ++ t)) []) (append-nil (money a)))
