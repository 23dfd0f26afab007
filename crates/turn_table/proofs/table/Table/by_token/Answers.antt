use Rattle.std.proofs.Common.{ap, sym, ◌∙◌, get_or, find, option_map, nat_cmp, bytes_eq}
use Rattle.std.specs.FinMap as fin
use Rattle.turn_table.specs.Prelude.{map_in, port_of_token}
use Rattle.turn_table.proofs.Places.{entry_found, find-none, found_is, no_port, position_none}
use Rattle.turn_table.proofs.Ready.{at_of}
use Rattle.turn_table.proofs.table.Table.by_token.Goals as goal

pub returns-in-Some-clause-port : goal.returns-in-Some-clause-port
returns-in-Some-clause-port g c =
    sym (ap (option_map (λ p. p.0)) (ap (find (λ p. bytes_eq p.1.token.0 c.args.token.now.0)) (sym c.items-ports.ensures) ∙ found_is (λ p. bytes_eq p.1.token.0 c.args.token.now.0) c.items-ports.result.now c.in-Some.i no_port c.in-Some.ensures.value))
    ∙ ap (λ s. port_of_token s.contents c.args.token.now.0) c.self.view_is

pub returns-in-Some-clause-free : goal.returns-in-Some-clause-free
returns-in-Some-clause-free g c =
    let at = entry_found (λ p. bytes_eq p.1.token.0 c.args.token.now.0) (map_in nat_cmp c.self.inside.reserved) c.items-ports.result.now c.items-ports.ensures c.in-Some.i no_port c.in-Some.ensures.value in
    let p = get_or c.items-ports.result.now c.in-Some.i no_port in
    (at_of c.self.view_is c.self.invariant).reserved_apart p.0 p.1 (ap (λ s. fin.get s.contents.reserved p.0) (sym c.self.view_is) ∙ at.0)

pub returns-in-None-clause-port : goal.returns-in-None-clause-port
returns-in-None-clause-port g c =
    sym (ap (option_map (λ p. p.0)) (ap (find (λ p. bytes_eq p.1.token.0 c.args.token.now.0)) (sym c.items-ports.ensures) ∙ find-none (λ p. bytes_eq p.1.token.0 c.args.token.now.0) c.items-ports.result.now (position_none (λ p. bytes_eq p.1.token.0 c.args.token.now.0) c.items-ports.result.now 0 (sym c.in-None.ensures.value))))
    ∙ ap (λ s. port_of_token s.contents c.args.token.now.0) c.self.view_is
