-- The grammar of STUN messages (RFC 8489, sections 5 and 14), as a relation on whole byte lists.
use Rattle.std.specs.Prelude.{◌≡◌, ℕ, ◌+◌, ◌-◌, ◌*◌, ◌/◌, ◌%◌, ◌^◌, ◌<◌, ◌≤◌, ◌==◌, Bool, Option, Some, None, sum_by, replicate, flat_map, if◌then◌else◌, List, [], ◌∷◌, ◌++◌, length, take}
use Rattle.std.specs.Int.{w16, w32, to_be_bytes}
use Rattle.turn_types.specs.declared.message.Class.{Class}
use Rattle.turn_types.specs.declared.message.Class.TheVariants.{Request, Indication, Success, Error}

-- an attribute of a message: its type, 16 bits, and its value (RFC 8489, section 14)
pub record Attribute : Type 0 where
  -- its type
  pub kind : ℕ
  pub value : List ℕ

-- what a message says: its class, its method, its transaction id and its attributes in order (RFC 8489, section 5)
pub record Content : Type 0 where
  pub class : Class
  -- a number below 2^12
  pub method : ℕ
  -- the transaction id, 12 bytes
  pub tx : List ℕ
  pub attributes : List Attribute

-- the two bits of the class
abbrev pub class_number : Class → ℕ
class_number Request = 0
class_number Indication = 1
class_number Success = 2
class_number Error = 3

-- the method's five highest bits, the class's higher bit, three bits of the method, the class's lower bit, and the
-- method's four lowest bits (RFC 8489, section 5, figure 3)
abbrev pub type_number : Class → ℕ → ℕ
type_number class method =
    method / 128 * 512 + class_number class / 2 * 256 + method / 16 % 8 * 32 + class_number class % 2 * 16 + method % 16

-- the magic cookie of each message (RFC 8489, section 5)
abbrev pub cookie : ℕ
cookie = 0x2112A442

-- bytes encode an attribute: type, length, value, and any padding up to a multiple of 4
pub record EncodesAttribute (bytes : List ℕ) (a : Attribute) : Type 0 where
  pub padding : List ℕ
  pub is : bytes ≡ to_be_bytes w16 a.kind ++ to_be_bytes w16 (length a.value) ++ a.value ++ padding
  pub short : length padding < 4
  pub aligned : length bytes % 4 ≡ 0
  pub kind_fits : a.kind < 2 ^ 16
  pub value_fits : length a.value < 2 ^ 16

-- bytes encode attributes, one after the other
abbrev pub EncodesAttributes : List ℕ → List Attribute → Type 0
EncodesAttributes bytes [] = bytes ≡ []
EncodesAttributes bytes (a ∷ others) =
    (front : List ℕ) × (rest : List ℕ) × (bytes ≡ front ++ rest) × EncodesAttribute front a × EncodesAttributes rest others

-- bytes encode a message: the header, and the attributes, whose size is the header's length
pub record Encodes (bytes : List ℕ) (m : Content) : Type 0 where
  -- the bytes of the attributes
  pub body : List ℕ
  pub is : bytes ≡ to_be_bytes w16 (type_number m.class m.method) ++ to_be_bytes w16 (length body)
      ++ to_be_bytes w32 cookie ++ m.tx ++ body
  pub method_fits : m.method < 2 ^ 12
  pub tx_size : length m.tx ≡ 12
  pub size_fits : length body < 2 ^ 16
  pub attributes : EncodesAttributes body m.attributes

-- a datagram and what it says
pub record Datagram : Type 0 where
  pub bytes : List ℕ
  -- what the bytes say, where they encode a message
  pub content : Content

-- an attribute's size with its padding
abbrev pub size_of : Attribute → ℕ
size_of a = 4 + (length a.value + 3) / 4 * 4

-- the attributes before the first of a type
abbrev pub before : ℕ → List Attribute → List Attribute
before kind [] = []
before kind (a ∷ others) = if a.kind == kind then [] else a ∷ before kind others

-- the attributes from the first of a type on
abbrev pub from : ℕ → List Attribute → List Attribute
from kind [] = []
from kind (a ∷ others) = if a.kind == kind then a ∷ others else from kind others

-- the value of the first attribute of a type
abbrev pub value_of : ℕ → List Attribute → Option (List ℕ)
value_of kind [] = None
value_of kind (a ∷ others) = if a.kind == kind then Some a.value else value_of kind others

-- where the first attribute of a type is in a message: after the header and the attributes before it
abbrev pub offset_of : ℕ → List Attribute → ℕ
offset_of kind attributes = 20 + sum_by size_of (before kind attributes)

-- the first of these attributes has this value, and is the last one or not
abbrev pub FirstHas : List Attribute → List ℕ → Bool → Type 0
FirstHas [] value is_last = ⊥
FirstHas (a ∷ others) value is_last = (a.value ≡ value) × (is_last ≡ (length others == 0))

-- the first attribute of a type: what of the datagram is before it, its value, and whether it is the last one
abbrev pub IsFirstOf : ℕ → Datagram → List ℕ → List ℕ → Bool → Type 0
IsFirstOf kind d front value is_last =
    (front ≡ take (offset_of kind d.content.attributes) d.bytes)
    × (offset_of kind d.content.attributes + 4 + length value ≤ length d.bytes)
    × FirstHas (from kind d.content.attributes) value is_last

-- how many bytes of padding a value of n bytes has
abbrev pub padding_size : ℕ → ℕ
padding_size n = (4 - n % 4) % 4

-- an attribute with zeros as padding
abbrev pub canonical_attribute : Attribute → List ℕ
canonical_attribute a = to_be_bytes w16 a.kind ++ to_be_bytes w16 (length a.value) ++ a.value ++ replicate (padding_size (length a.value)) 0

-- attributes, one after the other, with zeros as padding
abbrev pub canonical_attributes : List Attribute → List ℕ
canonical_attributes attributes = flat_map canonical_attribute attributes

-- the one encoding of a message with zeros as padding, in which the server writes
unfoldable pub canonical : Content → List ℕ
canonical m = to_be_bytes w16 (type_number m.class m.method) ++ to_be_bytes w16 (length (canonical_attributes m.attributes))
    ++ to_be_bytes w32 cookie ++ m.tx ++ canonical_attributes m.attributes

-- a message with one attribute more, at the end
abbrev pub with_attribute : Content → ℕ → List ℕ → Content
with_attribute m kind value = record {
  class = m.class;
  method = m.method;
  tx = m.tx;
  attributes = m.attributes ++ record { kind = kind; value = value } ∷ [];
}

-- the size of a message after its header
abbrev pub body_size : Content → ℕ
body_size m = sum_by size_of m.attributes
