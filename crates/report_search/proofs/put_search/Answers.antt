-- The report of a search.
use borrow.Author.Rules.{rules}
use native.Mathlib.Omega.{arith}
use mathlib.Core.Path.{◌≡◌, refl, sym, ap, ◌∙◌, subst}
use mathlib.Core.List.{List}
use Prim.Native.Nat.{ℕ, ◌^◌, ◌≤◌, ◌<◌}
use lib.ListN.{length, get_or}
use lib.Count.{count_trailing_zeros}
use Rattle.rules.specs.Account.{blank}
use Rattle.rules.specs.Search.{found_block}
use Rattle.account.specs.View.{to_account}
use Rattle.search_set.proofs.Laws.{first_below}
use Rattle.table.specs.Inside.{table_of}
use Rattle.table.specs.Promise.{Good}
use Rattle.table.specs.View.{Table, accounts_of}
use Rattle.search_selection.proofs.Marks.{counted}
use Rattle.octet_writer.specs.Written.{Written}
use Rattle.octet_writer.proofs.Laws.{written_then}
use Rattle.report_search.proofs.Shown.{place_sized, place_block}
use Rattle.report_search.proofs.Walked.{walked_none, walked_room, walked_more, walked_all}
use Rattle.report_search.proofs.put_search.Goals as goal

-- the table's length, in the terms of its list
count : (t : Table) → Good t → length t.codes ≡ 64 → length (accounts_of t) ≡ t.count
count t g long = counted t g long

few : (t : Table) → Good t → length t.codes ≡ 64 → length (accounts_of t) ≤ 64
few t g long = omega (arith, count t g long, g.own.within)

positive : (n : ℕ) → (n ≡ 0 → ⊥) → 0 < n
positive n h = omega arith

-- the place of the first account that is left
inside : (t : Table) → Good t → length t.codes ≡ 64 → (rest : ℕ) → (rest ≡ 0 → ⊥) → rest < 2 ^ length (accounts_of t) → count_trailing_zeros 64 rest < t.count
inside t g long rest h b = omega (arith, first_below 64 rest (length (accounts_of t)) (few t g long) (positive rest h) b, count t g long)

pub loop-rest-init : goal.loop-rest-init
loop-rest-init c =
    let t = table_of c.t.inside in
    let codes : length c.t.inside.codes ≡ 64 = search rules in
    let e : c.put.new.self.at ≡ 1 = omega (arith, c.new-w.ensures.2) in
    let below : c.args.set < 2 ^ t.count = rw (← c.t.view_is) at c.requires.0 in
    ((refl, refl), rw e (walked_none c.args.sender (accounts_of t) (few t c.t.invariant.good codes) c.args.set _ (subst (λ (n : ℕ). c.args.set < 2 ^ n) (sym (count t c.t.invariant.good codes)) below)))

pub bounds-t-inside-first_place : goal.bounds-t-inside-first_place
bounds-t-inside-first_place c =
    let codes : length c.t.inside.codes ≡ 64 = search rules in
    let b = inside (table_of c.t.inside) c.t.invariant.good codes c.loop-rest.rest c.loop-rest-test.true c.loop-rest.invariant.1.below in
    omega (arith, b, c.first_place.ensures, c.t.invariant.good.own.within)

pub put_found-requires : goal.put_found-requires
put_found-requires c =
    let t = table_of c.t.inside in
    let g = c.t.invariant.good in
    let codes : length c.t.inside.codes ≡ 64 = search rules in
    let b = inside t g codes c.loop-rest.rest c.loop-rest-test.true c.loop-rest.invariant.1.below in
    let r = walked_room c.args.sender (accounts_of t) (few t g codes) c.args.set _ c.loop-rest.rest _ c.loop-rest.w.at c.loop-rest.invariant.1 in (
      omega (arith, r, c.requires.1, ap length c.new-w.ensures.1),
      place_sized t g c.t.invariant.long c.first_place.result _ (omega (arith, b, c.first_place.ensures)),
    )

pub loop-rest-preserved : goal.loop-rest-preserved
unfolding to_account
loop-rest-preserved c =
    let t = table_of c.t.inside in
    let g = c.t.invariant.good in
    let codes : length c.t.inside.codes ≡ 64 = search rules in
    let xs = accounts_of t in
    let b = inside t g codes c.loop-rest.rest c.loop-rest-test.true c.loop-rest.invariant.1.below in
    let h : c.first_place.result < c.t.inside.count = omega (arith, b, c.first_place.ensures) in
    let e = place_block t g c.t.invariant.long c.first_place.result _ h c.args.sender _ c.may_be_asked_for_by.ensures ∙ ap (λ (i : ℕ). found_block c.args.sender xs (get_or xs i blank)) c.first_place.ensures in (
      search rules,
      rw c.without_first-rest.ensures
          (walked_more c.args.sender xs (few t g codes) c.args.set _ c.loop-rest.rest _ c.loop-rest.w.at c.loop-rest.invariant.1 blank _ _ (positive c.loop-rest.rest c.loop-rest-test.true)
          (subst (λ (bs : List ℕ). Written c.loop-rest.w.out.now c.loop-rest.w.at bs c.put_found.new.w.out.now c.put_found.new.w.at) e c.put_found.ensures.wrote)),
    )

pub returns : goal.returns
returns c =
    let t = table_of c.t.inside in
    let codes : length c.t.inside.codes ≡ 64 = search rules in
    let e : c.put.new.self.at ≡ 1 = omega (arith, c.new-w.ensures.2) in
    let w =
    written_then (rw (c.new-w.ensures.1, c.new-w.ensures.2, c.size.ensures.0, e) at c.put.ensures.wrote)
    (walked_all c.args.sender (accounts_of t) (few t c.t.invariant.good codes) c.args.set _ c.loop-rest.rest _ c.loop-rest.w.at c.loop-rest.invariant.1 c.loop-rest-test.false) in
    rw (← c.t.view_is) (search rules)
