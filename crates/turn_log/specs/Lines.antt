-- The lines of a second.
use Rattle.std.specs.Prelude.{ℕ, List, [], ◌∷◌, ◌/◌, ◌%◌, ◌==◌, nat_lt, Bool, false, true, None, if◌then◌else◌}
use Rattle.std.specs.FinMap as map
use Rattle.turn_log.specs.Counting.{counted, room_in}
use Rattle.turn_log.specs.Tallies.{Tallied, count_of, one_more}
use Rattle.turn_log.specs.declared.counts.About.TheVariants.{Commit}
use Rattle.turn_log.specs.declared.counts.Counted.{Counted}
use Rattle.turn_log.specs.declared.counts.Room.{Room}
use Rattle.turn_log.specs.declared.counts.Room.TheVariants.{Written, Repeated, LeftOut}
use Rattle.turn_log.specs.declared.counts.Subject.{Subject}
use Rattle.turn_log.specs.declared.limit.Line.{Line}
use Rattle.turn_log.specs.declared.limit.Line.TheVariants.{OfUser, OfRefresh, OfPeers, OfCommit, Of, OfStranger}

-- how many subjects of strangers have a line in a second
abbrev pub strangers_at_most : ℕ
strangers_at_most = 25

-- how many subjects of users have one
abbrev pub users_at_most : ℕ
users_at_most = 60

-- how many lines of peers, of a CreatePermission or a ChannelBind, a user has in a second
abbrev pub peers_at_most : ℕ
peers_at_most = 20

-- a port as a key: two bytes
abbrev pub key_of : ℕ → List ℕ
key_of port = port / 256 ∷ port % 256 ∷ []

-- the lines of a second: how often each subject came, the first time with a line, of strangers, of users, and of slow commits; how
-- often each port was refreshed, the first time with a line; how often each user named peers; how many about each matter were left
-- out; and how many could not be written
pub record LinesState : Type 0 where
  pub second : ℕ
  pub strangers : List Counted
  pub users : List Counted
  pub commits : List Counted
  pub refreshes : Tallied
  pub peers : Tallied
  pub left_out : List Counted
  pub lost : ℕ

-- a second without a line
abbrev pub begun : ℕ → LinesState
begun second = record { second = second; strangers = []; users = []; commits = []; refreshes = map.empty; peers = map.empty; left_out = []; lost = 0 }

-- what a slow commit is about
abbrev pub commit : Subject
commit = record { ip = 0; about = Commit; cause = None }

-- Whether a line is written. Of an allocation and of an end it always is. The first Refresh of a port in a second has a line, and 20
-- of each user that name peers; a slow commit, an error and a repeat if it is the first about its subject, and there is a place for it
-- beside the others of its kind.
abbrev pub room_of : LinesState → Line → Room
room_of l OfUser = Written
room_of l (OfRefresh port) = if count_of l.refreshes (key_of port) == 0 then Written else Repeated
room_of l (OfPeers user) = if nat_lt (count_of l.peers user.now) peers_at_most then Written else Repeated
room_of l OfCommit = room_in 1 l.commits commit
room_of l (Of s) = room_in users_at_most l.users s
room_of l (OfStranger s) = room_in strangers_at_most l.strangers s

-- the matter of a line for which there was no place: what it is about, without its address and cause
abbrev pub matter : Subject → Subject
matter s = record { ip = 0; about = s.about; cause = None }

-- the lines that were left out, after one about a subject with what comes of it
abbrev pub left_out_after : List Counted → Room → Subject → List Counted
left_out_after left_out Written s = left_out
left_out_after left_out Repeated s = left_out
left_out_after left_out LeftOut s = counted 16 left_out (matter s)

-- the second after a line
abbrev pub taken : LinesState → Line → LinesState
taken l OfUser = l
taken l (OfRefresh port) = record l { refreshes = one_more l.refreshes (key_of port) }
taken l (OfPeers user) = record l { peers = one_more l.peers user.now }
taken l OfCommit = record l {
  commits = counted 1 l.commits commit;
  left_out = left_out_after l.left_out (room_in 1 l.commits commit) commit;
}
taken l (Of s) = record l {
  users = counted users_at_most l.users s;
  left_out = left_out_after l.left_out (room_in users_at_most l.users s) s;
}
taken l (OfStranger s) = record l {
  strangers = counted strangers_at_most l.strangers s;
  left_out = left_out_after l.left_out (room_in strangers_at_most l.strangers s) s;
}

-- a line is of a stranger
abbrev pub is_of_stranger : Line → Bool
is_of_stranger OfUser = false
is_of_stranger (OfRefresh port) = false
is_of_stranger (OfPeers user) = false
is_of_stranger OfCommit = false
is_of_stranger (Of s) = false
is_of_stranger (OfStranger s) = true
