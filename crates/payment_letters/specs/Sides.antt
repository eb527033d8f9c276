-- The letters of a payment by who pays. Assumes nothing.
use Rattle.std.specs.Prelude.{Bool, true, false}
use Rattle.rules.specs.Account.{Account}
use Rattle.rules.specs.Letters.{letters_pass}

-- of the payer x with its bank b and the payee y with its bank d: in a credit the payer sends, in a debit the payee
unfoldable pub sides_pass : Bool → Account → Account → Account → Account → Bool
sides_pass true x b y d = letters_pass true x b y d
sides_pass false x b y d = letters_pass false y d x b
