-- The weight over all places tells the place among the first n. Assumes nothing.
use native.Mathlib.Omega.{arith}
use mathlib.Core.Path.{◌≡◌, refl}
use mathlib.Core.Bool.{Bool, true, false}
use mathlib.Core.List.{List}
use Prim.Native.Nat.{ℕ, ◌+◌, ◌≤◌}
use borrow.Author.Rules.{rules}
use borrow.Author.Tests.{tests, ltb-true, ltb-false}
use lib.Dec.{eqb, ltb}
use lib.ListN.{length, take}
use lib.Seq.{length-take-le}
use Rattle.std.proofs.lemmas.Iterator.{YieldsList-from_slice}
use Rattle.std.proofs.lemmas.Iterator.Search.{position_from_yields_List}
use Rattle.std.specs.List.{position}
use Rattle.std.specs.Bool.{then_some}
use Rattle.table.specs.View.{place_of}
use Rattle.table.specs.Promise.{Among}
use Rattle.table.proofs.Places.{position_place}
use Rattle.table.proofs.Weights.{weight_none, weight_one, place_within, place_behind}
-- below 128
use Rattle.table.proofs.place.Goals.{Then-w-lt128}
use Rattle.table.proofs.place.Goals as goal

found : (c : Then-w-lt128) → let s = c in 64 + place_of s.args.code s.args.all.now ≡ c.weight-w.result
found c =
    omega (arith, c.weight-w.ensures, weight_one c.args.code 64 c.args.all.now (omega (arith, c.weight-w.ensures, c.if-w-eq0.false)) (omega (arith, c.weight-w.ensures, c.if-w-lt128.true)))

pub returns-then-w-eq0 : goal.returns-then-w-eq0
returns-then-w-eq0 c =
    let long : length c.args.all.now ≡ 64 = search rules in
    let none = weight_none c.args.code 64 c.args.all.now (omega arith) (omega (arith, c.weight-w.ensures, c.if-w-eq0.true)) in
    omega (arith, place_behind c.args.code c.args.n c.args.all.now (omega (arith, none, c.requires, long)) (omega (arith, c.requires, long)))

pub overflow_sub-i : goal.overflow_sub-i
overflow_sub-i c = omega (arith, found (goal.at.overflow_sub-i c).Then-w-lt128)

-- of a place that is the code's first, whether it is among the first n
among : (c n i : ℕ) (l : List ℕ) → n ≤ length l → i ≡ place_of c l → Among c n l (then_some (ltb i n) i)
among c n i l h e = go (ltb i n) refl
  where
    go : (b : Bool) → ltb i n ≡ b → Among c n l (then_some b i)
    go true t = let below = ltb-true i n t in (omega (arith, e, below, place_within c n l (omega (arith, e, below))), below)
    go false t = place_behind c n l (omega (arith, e, ltb-false i n t)) h

pub returns-then-w-lt128 : goal.returns-then-w-lt128
returns-then-w-lt128 c =
    let long : length c.args.all.now ≡ 64 = search rules in
    rw c.then_some.ensures (among c.args.code c.args.n _ c.args.all.now (omega (arith, long, c.requires)) (omega (arith, found (goal.at.returns-then-w-lt128 c).Then-w-lt128)))

pub returns : goal.returns
returns c =
    let long : length c.args.all.now ≡ 64 = search rules in
    let codes = take c.args.n c.args.all.now in
    let there : c.position.result ≡ position (λ d. eqb d c.args.code) codes =
    position_from_yields_List (λ d. eqb d c.args.code) _ _ _ c.position.ensures.ran (YieldsList-from_slice codes cc) (λ x b q k. search (rules, tests)) in
    position_place c.args.code c.args.n c.args.all.now _ (length-take-le c.args.n c.args.all.now (omega (arith, long, c.requires))) there
