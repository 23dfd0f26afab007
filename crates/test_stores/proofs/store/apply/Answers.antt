use Rattle.std.proofs.Common.{sym, subst}
use Rattle.turn_history.specs.Prelude.{act_of, applied, PlainAct}
use Rattle.turn_record.specs.Prelude.{Holds}
use Rattle.turn_record.specs.declared.version.Version.{Version}
use Rattle.turn_record.proofs.Kept.{holds-applied}
use Rattle.turn_table.specs.Prelude.{State}
use Rattle.test_stores.proofs.store.apply.Goals as goal

pub returns : goal.returns
returns g c =
    let f = c.args.event.tuple in
    let d : PlainAct = act_of c.args.event.act in
    let old : State = c.args.table.now in
    let v : Version = c.args.version in
    let after = holds-applied v old.moment f d old.contents c.requires.writes c.requires.holds in
    let held = subst (λ (s : State). Holds v (applied s.moment f d s.contents)) (sym c.in_ok-reserve_for.ensures.ok) after in
    subst (λ (s : State). Holds v s.contents) (sym c.apply.ensures.state) held
