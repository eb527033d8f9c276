use Rattle.std.proofs.Common.{rules, tests, ◌∙◌, take}
use Rattle.std.proofs.lemmas.Iterator.{YieldsList-from_slice}
use Rattle.std.proofs.lemmas.Iterator.Search.{any_from_yields_List}
use Rattle.rules.specs.Message.{owned_by}
use Rattle.account.specs.View.{to_account}
use Rattle.table.specs.View.{accounts_of}
use Rattle.message_branches.proofs.Lookup.{some_viewed}
use Rattle.message_branches.proofs.has_branch.Goals as goal

pub returns : goal.returns
unfolding accounts_of
returns c =
    let xs = take c.t.inside.count c.t.inside.accounts in
    rw (← c.t.view_is)
    (any_from_yields_List (λ x. owned_by c.args.sender (to_account x).owner) _ _ c.any.result c.any.ensures.ran (YieldsList-from_slice xs cc) (λ x b q k. search (rules, tests))
    ∙ some_viewed (λ x. owned_by c.args.sender x.owner) xs)
