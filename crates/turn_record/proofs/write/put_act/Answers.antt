use Rattle.std.proofs.Common.{◌∷◌, []}
use Rattle.std.specs.Int.{w64, to_be_bytes}
use Rattle.turn_history.specs.Prelude.{act_of}
use Rattle.turn_record.specs.Prelude.{tag, five_tuple, body}
use Rattle.turn_record.proofs.Appended.{appended, no_more}
use Rattle.turn_record.proofs.write.put_act.Goals as goal

pub returns-clause-items : goal.returns-clause-items
returns-clause-items g c =
    let d = act_of c.args.act.now in
    let m = to_be_bytes w64 c.args.moment in
    let f = five_tuple c.args.tuple in
    appended _ _ _ (tag d ∷ []) (m ∷ f ∷ body d ∷ []) (rw c.tag_of.ensures at c.put.ensures.items)
    (appended _ _ _ m (f ∷ body d ∷ []) (rw (c.to_be_bytes.ensures, c.seconds.ensures.value) at c.put-2.ensures.items)
    (appended _ _ _ f (body d ∷ []) c.put_tuple.ensures.items (appended _ _ _ (body d) [] c.put_body.ensures.items (no_more _))))
