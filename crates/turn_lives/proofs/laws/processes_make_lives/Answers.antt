use Rattle.turn_lives.proofs.Joined.{all_live_on, are_one_run, lasts, one_lives_on}
use Rattle.turn_lives.proofs.Reserving.{reserve_after}
use Rattle.turn_lives.proofs.laws.processes_make_lives.Goals as goal

pub returns-clause-one : goal.returns-clause-one
returns-clause-one g c = λ form may_fail old new part sure recent m same never.
    one_lives_on g.D.Disk g.N.Disk g.H.AuthHandler g.G.RelayAddressGenerator g.T.Time form may_fail never old new part sure recent m same

pub returns-clause-lives : goal.returns-clause-lives
returns-clause-lives g c = λ form may_fail old new parts sure recent m same never.
    all_live_on (λ (name : Unit {0}). g.D.Disk) g.H.AuthHandler g.G.RelayAddressGenerator g.T.Time form may_fail never tt tt old new parts sure recent m same

pub returns-clause-lasts : goal.returns-clause-lasts
returns-clause-lasts g c = λ form may_fail old new parts same never.
    lasts (λ (name : Unit {0}). g.D.Disk) g.H.AuthHandler g.G.RelayAddressGenerator g.T.Time form may_fail never tt tt old new parts same

pub returns-clause-whole : goal.returns-clause-whole
returns-clause-whole g c = λ form may_fail old new parts same never.
    are_one_run (λ (name : Unit {0}). g.D.Disk) g.H.AuthHandler g.G.RelayAddressGenerator g.T.Time form may_fail never tt tt old new parts same

pub returns-clause-reserves : goal.returns-clause-reserves
returns-clause-reserves g c = λ form old next new part parts sure recent m same one rest l.
    reserve_after (λ (name : Unit {0}). g.D.Disk) g.H.AuthHandler g.G.RelayAddressGenerator g.T.Time form tt tt tt old next new part parts sure recent m same one rest l
