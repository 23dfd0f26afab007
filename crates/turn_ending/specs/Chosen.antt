-- Which allocations of a table end.
use Rattle.std.specs.Prelude.{ℕ, ◌&&◌, Bool, List, Vec, nat_eq, nat_lt, bytes_eq}
use Rattle.turn_history.specs.Prelude.{Entry, FiveTuple}
use Rattle.turn_ending.specs.declared.chosen.Chosen.{Chosen}
use Rattle.turn_ending.specs.declared.chosen.Whose.{Whose}
use Rattle.turn_ending.specs.declared.chosen.Whose.TheVariants.{Client, User}

-- an allocation of a user, by the bytes of the name, or of a client's address
abbrev pub is_whose : Whose → FiveTuple → Entry → Bool
is_whose (User name) f e = bytes_eq e.user name.now
is_whose (Client client) f e = nat_eq f.client.ip client.ip && nat_eq f.client.port client.port

-- it is live at the moment, and one of these
abbrev pub is_chosen : Whose → ℕ → FiveTuple × Entry → Bool
is_chosen whose moment p = nat_lt moment p.1.expiry && is_whose whose p.0 p.1

-- what is said of one: its five-tuple, its user and its port
abbrev pub shown : {A : Type 0} → Chosen A → FiveTuple × (List ℕ × ℕ)
shown c = (c.five_tuple, (c.user.items, c.port))

-- the same of an entry
abbrev pub shown_entry : FiveTuple × Entry → FiveTuple × (List ℕ × ℕ)
shown_entry p = (p.0, (p.1.user, p.1.port))
