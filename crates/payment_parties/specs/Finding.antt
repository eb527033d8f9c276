-- Where the parties of a payment and their banks stand in the table. Assumes nothing.
use Rattle.std.specs.Prelude.{ℕ}
use Rattle.rules.specs.Payment.{is_credit, payer, payee, bank_of}
use Rattle.account.specs.declared.Party.{Party}
use Rattle.table.specs.declared.Table.{Table}
use Rattle.table.specs.Promise.{FoundAt}
use Rattle.table.specs.View.{accounts_of}
use Rattle.command.specs.declared.Transfer.{Transfer}
use Rattle.payment_parties.specs.declared.Parties.{Parties}

-- the party with the code c stands where f says, and its bank
pub record PartyAt (t : Table) (c : ℕ) (f : Party ℕ) : Type 0 where
  pub own : FoundAt t c f.account
  pub bank : FoundAt t (bank_of c (accounts_of t)) f.bank

-- and both parties of the payment p
pub record PartiesAt (t : Table) (p : Transfer) (f : Parties ℕ) : Type 0 where
  pub payer_at : PartyAt t (payer (is_credit p.way) p.sender p.receiver) f.payer
  pub payee_at : PartyAt t (payee (is_credit p.way) p.sender p.receiver) f.payee
