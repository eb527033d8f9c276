use mathlib.Core.Path.{◌≡◌, sym, ap, ◌∙◌, subst}
use mathlib.Core.Bool.{Bool, cond}
use mathlib.Core.List.{map}
use Prim.Native.Nat.{ℕ, ◌+◌, ◌^◌, ◌<◌}
use native.Mathlib.Omega.{arith}
use borrow.Author.Rules.{rules}
use lib.ListN.{length, take}
use lib.Seq.{take_all}
use Rattle.rules.specs.Account.{blank}
use Rattle.rules.specs.Search.{selects}
use Rattle.rules.proofs.Selection.{length_id}
use Rattle.frame_fields.specs.Conditions.{conditions_in}
use Rattle.search_set.specs.Sets.{set_of}
use Rattle.table.specs.Inside.{table_of}
use Rattle.table.specs.View.{accounts_of}
use Rattle.search_selection.proofs.Marks.{none_marked, marked_below, marked_more, counted, found_selects}
use Rattle.search_selection.proofs.select.Goals.{then-meets_one, else-meets_one}
use Rattle.search_selection.proofs.select.Goals as goal

pub loop-i-init : goal.loop-i-init
loop-i-init c = none_marked

pub account_id-requires : goal.account_id-requires
account_id-requires c = tt

pub meets_one-requires : goal.meets_one-requires
meets_one-requires c =
    (c.requires, ap length c.account_id.ensures ∙ length_id _)

pub with_place-set-requires : goal.with_place-set-requires
with_place-set-requires c =
    let long : length c.t.inside.codes ≡ 64 = search rules in
    let n = counted (table_of c.t.inside) c.t.invariant.good long in
    (omega (arith, c.t.invariant.good.own.within), rw c.loop-i.invariant (marked_below (selects (conditions_in c.args.n c.args.b.now)) (accounts_of (table_of c.t.inside)) c.loop-i.i (omega arith)))

pub loop-i-preserved : goal.loop-i-preserved
loop-i-preserved c =
    let long : length c.t.inside.codes ≡ 64 = search rules in
    let p = selects (conditions_in c.args.n c.args.b.now) in
    let xs = accounts_of (table_of c.t.inside) in
    let n = counted (table_of c.t.inside) c.t.invariant.good long in
    let q = found_selects (table_of c.t.inside) c.t.invariant.good long (conditions_in c.args.n c.args.b.now) c.loop-i.i blank _ c.meets_one.result (omega arith) c.account_id.ensures c.meets_one.ensures in
    let e = marked_more p xs c.loop-i.i blank c.meets_one.result (omega arith) q in
    let S = set_of (map p (take c.loop-i.i xs)) in
    elim c.if-meets_one.branch [
      | then-meets_one w ↦ w.set-is ∙ w.with_place-set.ensures ∙ ap (λ (m : ℕ). m + 2 ^ c.loop-i.i) c.loop-i.invariant ∙ sym (e ∙ ap (λ (b : Bool). cond b (S + 2 ^ c.loop-i.i) S) w.if-meets_one.true)
      | else-meets_one w ↦ w.set-is ∙ c.loop-i.invariant ∙ sym (e ∙ ap (λ (b : Bool). cond b (S + 2 ^ c.loop-i.i) S) w.if-meets_one.false)
    ]

pub returns-clause-says : goal.returns-clause-says
returns-clause-says c =
    let long : length c.t.inside.codes ≡ 64 = search rules in
    let n = counted (table_of c.t.inside) c.t.invariant.good long in
    rw (← c.t.view_is) (c.loop-i.invariant ∙ rw (take_all c.loop-i.i (accounts_of (table_of c.t.inside)) (omega arith)))

pub returns-clause-below : goal.returns-clause-below
returns-clause-below c =
    let long : length c.t.inside.codes ≡ 64 = search rules in
    let n = counted (table_of c.t.inside) c.t.invariant.good long in
    let e : c.loop-i.i ≡ c.t.inside.count = omega arith in
    rw (← c.t.view_is) (subst (λ (m : ℕ). c.loop-i.set < 2 ^ m) e (rw c.loop-i.invariant (marked_below (selects (conditions_in c.args.n c.args.b.now)) (accounts_of (table_of c.t.inside)) c.loop-i.i (omega arith))))
