use Rattle.std.proofs.Common.{inl, inr, ◌≡◌, ℕ, ap, sym, ◌∙◌, Option, Some, None, IfNone, IfSome, MatchOption}
use Rattle.std.proofs.lemmas.Option.{IfSome_then}
use Rattle.turn_history.proofs.Steps.{table-later}
use Rattle.turn_history.specs.Prelude.{History, purged, table}
use Rattle.turn_table.specs.Prelude.{State, Agrees, AgreesOncePurged, RemovesReservation}
use Rattle.turn_table.proofs.Purging.{fewer_of, free_of, removes, rest_of}
use Rattle.turn_table.proofs.table.Table.purge.Goals as goal

-- ---- An entry that has expired

pub returns-in-Some-clause-one : goal.returns-in-Some-clause-one
returns-in-Some-clause-one g c = inl (removes c.args.moment c.args.self.now c.remove_entry.new.self c.in-Some.tuple c.remove_entry.result c.in-Some.ensures c.remove_entry.ensures.port c.remove_entry.ensures.state)

pub returns-in-Some-clause-free : goal.returns-in-Some-clause-free
returns-in-Some-clause-free g c = free_of _ _ _ _ (returns-in-Some-clause-one g c)

pub returns-in-Some-clause-rest : goal.returns-in-Some-clause-rest
returns-in-Some-clause-rest g c = rest_of _ _ _ _ (returns-in-Some-clause-one g c)

pub returns-in-Some-clause-fewer : goal.returns-in-Some-clause-fewer
returns-in-Some-clause-fewer g c = fewer_of _ _ _ _ (returns-in-Some-clause-one g c)

pub returns-in-Some-clause-begins : goal.returns-in-Some-clause-begins
returns-in-Some-clause-begins g c h same = ap (purged c.args.moment) same ∙ table-later h c.args.self.now.moment c.args.moment c.requires

pub returns-in-Some-clause-agrees : goal.returns-in-Some-clause-agrees
returns-in-Some-clause-agrees g c h same = returns-in-Some-clause-rest g c ∙ same

-- ---- No entry has expired

pub returns-in-None-clause-one : goal.returns-in-None-clause-one
returns-in-None-clause-one g c = IfSome_then c.purge_reserved.result c.purge_reserved.ensures.one (λ port r. inr r)

pub returns-in-None-clause-free : goal.returns-in-None-clause-free
returns-in-None-clause-free g c = IfSome_then c.purge_reserved.result c.purge_reserved.ensures.one (λ port r. free_of _ _ _ port (inr r))

pub returns-in-None-clause-rest : goal.returns-in-None-clause-rest
returns-in-None-clause-rest g c = IfSome_then c.purge_reserved.result c.purge_reserved.ensures.one (λ port r. rest_of _ _ _ port (inr r))

pub returns-in-None-clause-fewer : goal.returns-in-None-clause-fewer
returns-in-None-clause-fewer g c = IfSome_then c.purge_reserved.result c.purge_reserved.ensures.one (λ port r. fewer_of _ _ _ port (inr r))

pub returns-in-None-clause-begins : goal.returns-in-None-clause-begins
returns-in-None-clause-begins g c h same = ap (purged c.args.moment) same ∙ table-later h c.args.self.now.moment c.args.moment c.requires

agrees_by : (o : Option ℕ) (t : ℕ) (old new : State) (h : History) → IfSome o (RemovesReservation t old.contents new.contents)
    → IfNone o (new ≡ record old { moment = t; contents = purged t old.contents; room = None }) → AgreesOncePurged t old h → MatchOption o (Agrees new h) (λ _. AgreesOncePurged t new h)
agrees_by None t old new h one all same = ap (λ s. s.contents) all ∙ same ∙ ap (λ s. table h s.moment) (sym all)
agrees_by (Some port) t old new h one all same = rest_of t old.contents new.contents port (inr one) ∙ same

pub returns-in-None-clause-agrees : goal.returns-in-None-clause-agrees
returns-in-None-clause-agrees g c h same =
    agrees_by c.purge_reserved.result c.args.moment c.args.self.now c.purge_reserved.new.self h c.purge_reserved.ensures.one c.purge_reserved.ensures.all same
