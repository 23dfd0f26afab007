-- The attributes of a message that count.
use Rattle.std.specs.Prelude.{ℕ, ◌==◌, Bool, is_some, Option, if◌then◌else◌, List, [], ◌∷◌}
use Rattle.std.specs.List.{list_any}
use Rattle.turn_codec.specs.AttributeTypes.{message_integrity, is_unknown}
use Rattle.turn_codec.specs.Grammar.{Attribute, Content, before, value_of}

-- those before the first MESSAGE-INTEGRITY, or all where there is none (RFC 8489, section 14.5)
abbrev pub seen : Content → List Attribute
seen m = before message_integrity m.attributes

-- a type is seen that a receiver has to understand and that is not known (RFC 8489, section 6.3.1)
abbrev pub has_unknown : Content → Bool
has_unknown m = list_any (λ a. is_unknown a.kind) (seen m)

-- the value of the first attribute of a type that is seen
unfoldable pub seen_value : Content → ℕ → Option (List ℕ)
seen_value m kind = value_of kind (seen m)

-- an attribute of a type is seen: one that counts has it
abbrev pub is_seen : Content → ℕ → Bool
is_seen m kind = is_some (seen_value m kind)

-- the values of all attributes of a type
abbrev pub values_of : ℕ → List Attribute → List (List ℕ)
values_of kind [] = []
values_of kind (a ∷ others) = if a.kind == kind then a.value ∷ values_of kind others else values_of kind others
