-- What is known of a request that passed.
use Rattle.std.proofs.Common.{◌≡◌, ℕ, ◌<◌, ◌≤◌, ◌+◌, ◌^◌, ◌∙◌, ◌↔◌, IsTrue, Bool, true, List, [], Some, refl, sym, ap, subst, arith}
use Rattle.turn_types.specs.declared.address.Endpoint.{Endpoint}
use Rattle.turn_types.specs.Prelude.{nonce_lifetime}
use Rattle.turn_codec.specs.Prelude.{nonce, Content, Datagram, Encodes, seen_value}
use Rattle.turn_codec.proofs.Header.{one_message}
use Rattle.turn_mac.specs.Integrity.{has_right_integrity}
use Rattle.turn_mac.proofs.Decided.{integrity_Decides}
use Rattle.turn_cred.specs.Prelude.{AreSigned, Holds, IsIssued, Keys, Passed, Policy, is_fresh, nonce_of, verdict}
use Rattle.turn_cred.specs.declared.key.Key.{Key}
use Rattle.turn_cred.proofs.Fresh.{fresh_is}
use Rattle.turn_cred.proofs.Passes.{passed}
use Rattle.turn_cred.proofs.SecondText.{same_second}

-- a nonce that was issued holds exactly in the hour from its second on
pub current_is_fresh : (b : Bool) (secret n : List ℕ) (client : Endpoint) (t s : ℕ) (w : IsIssued secret n client) → s ≡ w.issued → t < 2 ^ 64
    → (IsTrue b ↔ ((s ≤ t) × (t < s + nonce_lifetime))) → b ≡ is_fresh secret n client t
current_is_fresh b secret n client t s w is small h =
    fresh_is b secret n client t (
      λ yes. let r = h.0 yes in let past = r.0 in let fresh = r.1 in record { issued = w.issued; past = omega (arith, is); fresh = omega (arith, is); text = w.text },
      λ holds.
          let past = holds.past in
          let fresh = holds.fresh in
          let same : holds.issued ≡ w.issued = same_second secret holds.issued w.issued client (omega arith) w.fits (sym w.text ∙ holds.text) in
          h.1 (omega (arith, is, same), omega (arith, is, same)),
    )

-- a request that passes has a nonce that was issued
pub nonce_issued : (p : Policy) (keys : Keys) (d : Datagram) (client : Endpoint) (t : ℕ) (user : List ℕ) (key : Key) (n : List ℕ) → t < 2 ^ 64
    → verdict p keys d client t ≡ Passed user key → seen_value d.content nonce ≡ Some n → IsIssued p.secret n client
nonce_issued p keys d client t user key n small e seen =
    let fresh = (passed p keys d client t user key e).fresh in
    let holds = fresh.holds in
    let past = holds.past in
    let same : fresh.value ≡ n = cc (fresh.seen, seen) in
    record { issued = holds.issued; fits = omega arith; text = sym same ∙ holds.text }

-- it is signed with the user's key
pub request_signed : (p : Policy) (keys : Keys) (d : Datagram) (client : Endpoint) (t : ℕ) (user : List ℕ) (key : Key)
    → verdict p keys d client t ≡ Passed user key → has_right_integrity key.bytes d ≡ true
request_signed p keys d client t user key e = (integrity_Decides key.bytes d).1 (passed p keys d client t user key e).signed

-- what a copy of a message's bytes encodes is that message
pub copy_signed : (key copy bytes : List ℕ) (d : Datagram) → Encodes d.bytes d.content → bytes ≡ d.bytes → copy ≡ bytes
    → has_right_integrity key d ≡ true → AreSigned key copy
copy_signed key copy bytes d encoded is copied right m e =
    let same : m ≡ d.content = (one_message d.bytes d.bytes [] [] m d.content (subst (λ (b : List ℕ). Encodes b m) (copied ∙ is) e) encoded refl).1 in
    rw (copied ∙ is, same) right
