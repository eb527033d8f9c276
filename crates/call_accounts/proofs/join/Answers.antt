use borrow.Author.Rules.{rules}
use mathlib.Core.Path.{◌≡◌, sym, subst}
use mathlib.Core.List.{[], ◌∷◌, ◌++◌}
use lib.ListN.{length, length-set}
use Rattle.rules.specs.Invariant.{Invariant}
use Rattle.account.specs.View.{to_account}
use Rattle.table.specs.Inside.{table_of}
use Rattle.table.specs.Promise.{Holds}
use Rattle.table.specs.View.{accounts_of}
use Rattle.call_accounts.proofs.Joins.{joined_to, one_more}
use Rattle.call_accounts.proofs.join.Goals.{After-t-1}
use Rattle.call_accounts.proofs.join.Goals as goal

one : (c : After-t-1) → let t = table_of c.t.inside in Holds t (joined_to t c.args.x) (accounts_of t ++ (to_account c.args.x ∷ []))
one c =
    let numbers : length c.t.inside.codes ≡ 64 = search rules in
    one_more (table_of c.t.inside) c.t.invariant.good c.t.invariant.long c.args.x numbers (rw (← c.t.view_is) at c.requires.0)

pub invariant_of-t : goal.invariant_of-t
invariant_of-t c =
    let h = one (goal.at.invariant_of-t c).After-t-1 in
    record {
      good = record { own = h.own; inv = subst Invariant (sym h.view) ((rw (← c.t.view_is) at c.requires.1) c.t.invariant.good) };
      long = simp length-set c.t.invariant.long;
    }

pub returns : goal.returns
returns c = rw (← c.t.view_is) (one (goal.at.returns c).After-t-1)
