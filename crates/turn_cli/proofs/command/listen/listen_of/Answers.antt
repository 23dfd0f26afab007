use Rattle.std.proofs.Common.{ℕ, List, arith, subst}
use Rattle.std.proofs.lemmas.Grind.{common_steps}
use Rattle.turn_cli.specs.Command.{IsListen}
use Rattle.turn_cli.proofs.Listening.{listened_after}
use Rattle.turn_cli.proofs.command.listen.listen_of.Goals as goal

pub loop-text-preserved : goal.loop-text-preserved
loop-text-preserved c =
    let P : List ℕ → Type 0 = λ text. IsListen text c.in-Some-listen_in.address in (
      grind (arith, common_steps),
      listened_after c.in-Some.texts.now c.loop-text.text-index _ c.in-Some-listen_in.address c.loop-text.addresses.items _
          c.loop-text-test.true c.loop-text.invariant.1 (subst P c.as_bytes.ensures.value c.in-Some-listen_in.ensures.found)
          c.in_default-push.ensures.items,
    )
