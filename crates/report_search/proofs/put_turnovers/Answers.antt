use Rattle.octets.specs.Octets.{twos, money}
use Rattle.rules.specs.Search.{turnover_bytes}
use Rattle.account.specs.View.{to_turnovers}
use Rattle.octet_writer.proofs.Laws.{written_then}
use Rattle.report_search.proofs.put_turnovers.Goals as goal

pub returns-clause-wrote : goal.returns-clause-wrote
unfolding to_turnovers turnover_bytes money twos
returns-clause-wrote c = written_then c.put.ensures.wrote (written_then c.put-2.ensures.wrote (written_then c.put-3.ensures.wrote c.put-4.ensures.wrote))
