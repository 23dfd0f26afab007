use Rattle.std.proofs.Common.{ℕ, ◌++◌, List, subst}
use Rattle.turn_record.specs.Prelude.{WasFed}
use Rattle.turn_store.specs.Prelude.{AreBytes}
use Rattle.turn_store.proofs.Fed.{bytes_join}
use Rattle.turn_store.proofs.Staged.{read_of}
use Rattle.turn_store.proofs.snapshots.feed_piece.Goals as goal

pub returns-clause-fed : goal.returns-clause-fed
returns-clause-fed g c = read_of c.in_ok-read_front.ensures.value.reads (λ crash_model.
    let value = c.in_ok-read_front.ensures.value.found crash_model in
    (subst AreBytes value c.feed.ensures.bytes, λ v b fed was. subst (λ (l : List ℕ). WasFed v b c.feed.new.reader (fed ++ l)) value (c.feed.ensures.fed v b fed was)))

pub returns-clause-fed_some : goal.returns-clause-fed_some
returns-clause-fed_some g c = λ v b fed are was. (_, bytes_join fed _ are c.feed.ensures.bytes, c.feed.ensures.fed v b fed was)
