-- What a program's letter says, in the words of the rules. Assumes nothing.
use Rattle.rules.specs.Letters as Rule
use Rattle.account_letters.specs.declared.Letter.{Letter}
use Rattle.account_letters.specs.declared.Letter.TheVariants.{A, B, N, S, R}

unfoldable pub to_letter : Letter → Rule.Letter
to_letter A = Rule.A
to_letter B = Rule.B
to_letter N = Rule.N
to_letter S = Rule.S
to_letter R = Rule.R
