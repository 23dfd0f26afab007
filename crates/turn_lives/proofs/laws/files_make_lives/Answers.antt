use Rattle.turn_lives.proofs.Joined.{all_live_on, are_one_run, lasts}
use Rattle.turn_lives.proofs.Reserving.{reserve_after}
use Rattle.turn_lives.proofs.laws.files_make_lives.Goals as goal
use Rattle.turn_lives.specs.Files.{file_of}

pub returns-clause-lives : goal.returns-clause-lives
returns-clause-lives g c = λ form may_fail first last old new parts sure recent m same never.
    all_live_on file_of g.H.AuthHandler g.G.RelayAddressGenerator g.T.Time form may_fail never first last old new parts sure recent m same

pub returns-clause-lasts : goal.returns-clause-lasts
returns-clause-lasts g c = λ form may_fail first last old new parts same never.
    lasts file_of g.H.AuthHandler g.G.RelayAddressGenerator g.T.Time form may_fail never first last old new parts same

pub returns-clause-whole : goal.returns-clause-whole
returns-clause-whole g c = λ form may_fail first last old new parts same never.
    are_one_run file_of g.H.AuthHandler g.G.RelayAddressGenerator g.T.Time form may_fail never first last old new parts same

pub returns-clause-reserves : goal.returns-clause-reserves
returns-clause-reserves g c = λ form first mid last old next new part parts sure recent m same one rest l.
    reserve_after file_of g.H.AuthHandler g.G.RelayAddressGenerator g.T.Time form first mid last old next new part parts sure recent m same one rest l
