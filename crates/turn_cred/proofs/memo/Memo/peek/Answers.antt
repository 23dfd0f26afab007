use Rattle.std.proofs.Common.{◌≡◌, rules, ◌∙◌}
use Rattle.turn_cred.specs.Prelude.{named}
use Rattle.turn_cred.proofs.Remembered.{held_where_some}
use Rattle.turn_cred.proofs.memo.Memo.peek.Goals as goal

pub returns : goal.returns
returns g c =
    let was : named c.in_ok-keys.keys.now.entries ≡ c.args.self.now = search rules in
    held_where_some c.args.user.now c.in_ok-keys.keys.now.entries c.args.self.now c.copied.result was (c.copied.ensures ∙ c.peek.ensures)
