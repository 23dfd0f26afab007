use Rattle.turn_player.proofs.Worlds.{calls_make_lives, commit_since, formatted_represents, lasts, open_since, whole}
use Rattle.turn_player.proofs.laws.calls_make_lives.Goals as goal

pub returns-clause-formatted : goal.returns-clause-formatted
returns-clause-formatted g c = λ form s d h g'. formatted_represents g.D.Disk g.H.AuthHandler g.G.RelayAddressGenerator form s d h g'

pub returns-clause-goes_on : goal.returns-clause-goes_on
returns-clause-goes_on g c = λ form s may_fail p w v inputs said same never. calls_make_lives g.D.Disk g.H.AuthHandler g.G.RelayAddressGenerator form s may_fail never same p w v inputs said

pub returns-clause-commits : goal.returns-clause-commits
returns-clause-commits g c = commit_since g.D.Disk g.H.AuthHandler g.G.RelayAddressGenerator

pub returns-clause-openings : goal.returns-clause-openings
returns-clause-openings g c = open_since g.D.Disk g.H.AuthHandler g.G.RelayAddressGenerator

pub returns-clause-whole : goal.returns-clause-whole
returns-clause-whole g c = λ form s may_fail w v inputs said same never. whole g.D.Disk g.H.AuthHandler g.G.RelayAddressGenerator form s may_fail same never w v inputs said

pub returns-clause-lasts : goal.returns-clause-lasts
returns-clause-lasts g c = λ form s may_fail p w v inputs said sent before x after same never.
    lasts g.D.Disk g.H.AuthHandler g.G.RelayAddressGenerator form s may_fail same never p w v inputs said sent before x after
