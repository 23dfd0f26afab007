use Rattle.turn_rules.proofs.Tokens.{token_is_of}
use Rattle.turn_rules.proofs.laws.tokens_are_of_their_ports.Goals as goal

pub returns : goal.returns
returns c = token_is_of
