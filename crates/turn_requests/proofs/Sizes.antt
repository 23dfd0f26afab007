-- Each attribute makes a message longer.
use Rattle.std.proofs.Common.{◌≡◌, ◌≤◌, ◌<◌, ◌+◌, ◌*◌, ◌/◌, ℕ, refl, List, [], ◌∷◌, take, drop, take-append-drop, length, get_or, ap, sym, ◌∙◌, arith, fold}
use Rattle.std.proofs.lemmas.List.Sums.{sum_by_push, fold-append, fold_more}
use Rattle.turn_codec.specs.Prelude.{xor_value, Content, body_size, size_of, with_attribute}
use Rattle.turn_requests.specs.declared.request.Attribute.{Attribute}
use Rattle.turn_requests.specs.declared.request.Attribute.TheVariants.{Lifetime, Peer, Channel, Transport, NoTransport, EvenPort, DontFragment, ReservationToken}
use Rattle.turn_requests.specs.Sending.{send_of, with_one}
use Rattle.turn_types.specs.declared.address.Endpoint.{Endpoint}

pub more : (m : Content) (kind : ℕ) (value : List ℕ) → body_size m ≤ body_size (with_attribute m kind value)
more m kind value = omega (arith, sum_by_push size_of m.attributes (record { kind = kind; value = value }))

pub one_more : (m : Content) (a : Attribute) → body_size m ≤ body_size (with_one m a)
one_more m (Lifetime seconds) = more m _ _
one_more m (Peer peer) = more m _ _
one_more m (Channel number) = more m _ _
one_more m (Transport protocol) = more m _ _
one_more m NoTransport = omega arith
one_more m (EvenPort reserves) = more m _ _
one_more m DontFragment = more m _ _
one_more m (ReservationToken token) = more m _ _

pub all_more : (attributes : List Attribute) (m : Content) → body_size m ≤ body_size (fold with_one m attributes)
all_more [] m = omega arith
all_more (a ∷ others) m = omega (arith, one_more m a, all_more others (with_one m a))

-- where a message is too long after one of its attributes, it is after all of them
pub long_front : (m now : Content) (attributes : List Attribute) (i : ℕ) (d : Attribute) → i < length attributes
    → now ≡ fold with_one m (take i attributes) → 65532 < body_size (with_one now (get_or attributes i d)) → 65532 < body_size (fold with_one m attributes)
long_front m now attributes i d lt is long =
    let front = fold with_one m (take (i + 1) attributes) in
    let step : body_size front ≡ body_size (with_one now (get_or attributes i d)) =
    ap body_size (fold_more with_one m attributes i d lt) ∙ ap (λ (c : Content). body_size (with_one c (get_or attributes i d))) (sym is) in
    let whole : body_size (fold with_one m attributes) ≡ body_size (fold with_one front (drop (i + 1) attributes)) =
    ap (λ (as' : List Attribute). body_size (fold with_one m as')) (sym (take-append-drop (i + 1) attributes))
    ∙ ap body_size (fold-append with_one m (take (i + 1) attributes) (drop (i + 1) attributes)) in
    let grows = all_more (drop (i + 1) attributes) front in
    omega (arith, step, whole, grows, long)

address_size : (peer : Endpoint) → length (xor_value peer) ≡ 8
unfolding xor_value
address_size peer = refl

-- a Send indication has an XOR-PEER-ADDRESS of 12 bytes, and its data
pub send_size : (peer : Endpoint) (bytes : List ℕ) → body_size (send_of peer bytes) ≡ 16 + (length bytes + 3) / 4 * 4
send_size peer bytes = let size = address_size peer in omega arith
