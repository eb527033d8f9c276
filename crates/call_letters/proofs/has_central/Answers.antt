use Rattle.std.proofs.Common.{rules, tests}
use mathlib.Core.Path.{◌∙◌}
use lib.ListN.{take}
use Rattle.std.proofs.lemmas.Iterator.{YieldsList-from_slice}
use Rattle.std.proofs.lemmas.Iterator.Search.{any_from_yields_List}
use Rattle.account.specs.View.{to_account}
use Rattle.table.specs.View.{accounts_of}
use Rattle.table.proofs.Passes.{some_of}
use Rattle.call_letters.proofs.has_central.Goals as goal

pub returns : goal.returns
unfolding accounts_of to_account
returns c =
    rw (← c.t.view_is)
    (any_from_yields_List (λ x. x.marked) _ _ _ c.any.ensures.ran (YieldsList-from_slice (take c.t.inside.count c.t.inside.accounts) cc) (λ x b q k. search (rules, tests))
    ∙ some_of (λ x. x.marked) (take c.t.inside.count c.t.inside.accounts))
