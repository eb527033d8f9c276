-- What std says of `all`, in the rules' word. Assumes nothing.
use mathlib.Core.Path.{◌≡◌, refl, ap, ◌∙◌}
use mathlib.Core.List.{List, [], ◌∷◌}
use mathlib.Core.Bool.{Bool, ◌&&◌}
use Prim.Native.Nat.{ℕ}
use Rattle.std.specs.List.{list_all}
use Rattle.rules.specs.Command.{every}

pub every_of : (p : ℕ → Bool) (l : List ℕ) (r : Bool) → r ≡ list_all p l → r ≡ every p l
unfolding every
every_of p [] r e = e
every_of p (x ∷ l) r e = e ∙ ap (λ (b : Bool). p x && b) (every_of p l (list_all p l) refl)
