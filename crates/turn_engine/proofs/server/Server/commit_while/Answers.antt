use Rattle.std.proofs.Common.{List, Ok, Result, map, sym, ap, ◌∙◌, subst}
use Rattle.turn_step.specs.Prelude.{Sent, sent_of}
use Rattle.std.specs.Result.{result_map_both}
use Rattle.turn_store.specs.declared.error.StoreError.{StoreError}
use Rattle.turn_engine.specs.Prelude.{Commits, committed, emptied}
use Rattle.turn_engine.proofs.server.Server.commit_while.Goals as goal

pub returns-in-Ok-clause-call : goal.returns-in-Ok-clause-call
returns-in-Ok-clause-call g c =
    let after = emptied c.args.self.now c.write-written.new.self.store in
    let same = c.hand_out.ensures.emptied ∙ ap (λ s. emptied s c.write-written.new.self.store) c.write-written.ensures.rest in
    let handed = c.hand_out.ensures.handed ∙ ap (λ s. s.outs) c.write-written.ensures.rest in
    subst (λ s. Commits g.D.Disk c.args.self.now s (Ok (map sent_of c.hand_out.result.items))) (sym same)
    (subst (λ (outs : List Sent). Commits g.D.Disk c.args.self.now after (Ok outs)) (sym handed) (subst (λ (r : Result Unit StoreError). Commits g.D.Disk c.args.self.now (committed c.args.self.now c.write-written.new.self.store r) (result_map_both (λ _. c.args.self.now.outs) (λ fault. fault) r)) c.in-Ok.is c.write-written.ensures.call))
