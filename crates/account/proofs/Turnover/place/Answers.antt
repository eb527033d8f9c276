use mathlib.Core.Path.{◌≡◌, refl}
use denote.Enum.Declared.{tag_of}
use Rattle.account.specs.declared.Turnover.{Turnover}
use Rattle.account.specs.declared.Turnover.TheVariants.{Icdt, Rcdt, Iddt, Rddt}
use Rattle.account.specs.contracts.Turnover.{the_type}
use Rattle.account.specs.View.{place_of}
use Rattle.account.proofs.Laws.{place_low}
use Rattle.account.proofs.Turnover.place.Goals as goal

tag_is : (t : Turnover) → tag_of the_type t ≡ place_of t
unfolding place_of
tag_is Icdt = refl
tag_is Rcdt = refl
tag_is Iddt = refl
tag_is Rddt = refl

pub returns : goal.returns
returns c = rw (tag_is c.args.self) (place_low c.args.self, refl)
