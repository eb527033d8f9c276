-- What is kept of a begun line stands for all of it, whatever is read behind it. Assumes nothing.
use mathlib.Core.Path.{◌≡◌, refl, sym, ap, ◌∙◌}
use mathlib.Core.Bool.{Bool, true, false}
use mathlib.Core.List.{List, [], ◌∷◌, ◌++◌}
use Prim.Native.Nat.{ℕ, ◌≤◌}
use native.Mathlib.Omega.{arith}
use lib.Dec.{ltb}
use lib.ListN.{length, take}
use lib.Seq.{take_all, take-take, take-append-le, length-take-le}
use borrow.Author.Tests.{ltb-true, ltb-false}
use Rattle.lines.specs.Text.{whole_lines}
use Rattle.rules.specs.Command.{Command}
use Rattle.tally_feed.specs.Reads.{begun}
use Rattle.tally_feed.proofs.Overlong.{cut_same}
use Rattle.tally_feed.proofs.Alike.{commands_each}
use Rattle.tally_feed.proofs.Begun.{in_front, in_front_lem, begun_one, begun_behind, none_take}

-- the lines hold the same commands, and what is kept next is the same
abbrev Same : List ℕ → List ℕ → List ℕ → Type 0
Same a b t = (commands_each (whole_lines (a ++ t)) ≡ commands_each (whole_lines (b ++ t))) × (take 1024 (begun (a ++ t)) ≡ take 1024 (begun (b ++ t)))

module _ (b t : List ℕ) (none : whole_lines b ≡ []) where
  short : length b ≤ 1024 → Same (take 1024 b) b t
  short h =
      let e : take 1024 b ≡ b = take_all 1024 b h in
      (ap (λ (l : List ℕ). commands_each (whole_lines (l ++ t))) e, ap (λ (l : List ℕ). take 1024 (begun (l ++ t))) e)

  module _ (h : 1024 ≤ length b) where
    clean : whole_lines (take 1024 b) ≡ []
    clean = none_take b 1024 none

    cut_front : (ls : List (List ℕ)) → commands_each (in_front (take 1024 b) ls) ≡ commands_each (in_front b ls)
    cut_front [] = refl
    cut_front (l ∷ ls) = ap (λ (cs : List Command). cs ∷ commands_each ls) (cut_same b l h)

    cut_begun : (ls : List (List ℕ)) → whole_lines t ≡ ls → take 1024 (begun (take 1024 b ++ t)) ≡ take 1024 (begun (b ++ t))
    cut_begun [] e =
        ap (take 1024) (begun_one (take 1024 b) t clean e) ∙ take-append-le 1024 (take 1024 b) t (omega (arith, length-take-le 1024 b h))
        ∙ take-take 1024 1024 b (omega arith) ∙ sym (take-append-le 1024 b t h) ∙ ap (take 1024) (sym (begun_one b t none e))
    cut_begun (l ∷ ls) e = ap (take 1024) (begun_behind (take 1024 b) t clean l ls e ∙ sym (begun_behind b t none l ls e))

    long : Same (take 1024 b) b t
    long = (
      ap commands_each (in_front_lem (take 1024 b) t clean) ∙ cut_front (whole_lines t) ∙ ap commands_each (sym (in_front_lem b t none)),
      cut_begun (whole_lines t) refl,
    )

  pub kept_same : Same (take 1024 b) b t
  kept_same = go (ltb (length b) 1024) refl
    where
      go : (q : Bool) → ltb (length b) 1024 ≡ q → Same (take 1024 b) b t
      go true e = short (omega (arith, ltb-true (length b) 1024 e))
      go false e = long (ltb-false (length b) 1024 e)
