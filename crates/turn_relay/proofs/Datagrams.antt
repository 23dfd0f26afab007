-- A client's datagram is a message, or channel data, or neither.
use Rattle.std.proofs.Common.{◌≡◌, ℕ, List, [], ◌++◌, length, take, drop, Option, None, refl, sym, ap, ◌∙◌, arith, take_at}
use Rattle.std.specs.FinMap as fin
use Rattle.std.specs.Int.{w16, to_be_bytes, from_be_bytes}
use Rattle.std.proofs.lemmas.Nat.{from_be_bytes-to_be_bytes_2}
use Rattle.turn_history.specs.Prelude.{FiveTuple, Contents}
use Rattle.turn_codec.specs.Prelude.{EncodesChannelData, Content, Encodes, type_number}
use Rattle.turn_codec.proofs.Header.{one_message}
use Rattle.turn_codec.proofs.TypeNumber.{type_number_fits}
use Rattle.turn_relay.specs.FromClient.{PeerData, SendsToPeer, sent_by_channel_data, sent_by_message}

-- a message begins with the bits 00, channel data with 01
pub not_both : (bytes : List ℕ) (m : Content) (number : ℕ) (payload : List ℕ) → Encodes bytes m → EncodesChannelData bytes number payload → ⊥
not_both bytes m number payload s d =
    let both = sym s.is ∙ d.is in
    let first : from_be_bytes w16 (to_be_bytes w16 (type_number m.class m.method)) ≡ from_be_bytes w16 (to_be_bytes w16 number) = ap (λ (l : List ℕ). from_be_bytes w16 (take 2 l)) both in
    let small = type_number_fits m.class m.method s.method_fits in
    let kind = from_be_bytes-to_be_bytes_2 (type_number m.class m.method) (omega (arith, small)) in
    let channel = from_be_bytes-to_be_bytes_2 number (omega (arith, d.is_channel)) in
    omega (arith, first, kind, channel, small, d.is_channel)

-- bytes encode one channel data
pub one_channel_data : (bytes : List ℕ) (n m : ℕ) (p q : List ℕ) → EncodesChannelData bytes n p → EncodesChannelData bytes m q → (n ≡ m) × (p ≡ q)
one_channel_data bytes n m p q a b =
    let both = sym a.is ∙ b.is in
    let first : from_be_bytes w16 (to_be_bytes w16 n) ≡ from_be_bytes w16 (to_be_bytes w16 m) = ap (λ (l : List ℕ). from_be_bytes w16 (take 2 l)) both in
    let second : from_be_bytes w16 (to_be_bytes w16 (length p)) ≡ from_be_bytes w16 (to_be_bytes w16 (length q)) = ap (λ (l : List ℕ). from_be_bytes w16 (take 2 (drop 2 l))) both in
    let size : length p ≡ length q = sym (from_be_bytes-to_be_bytes_2 (length p) (omega (arith, a.fits))) ∙ second ∙ from_be_bytes-to_be_bytes_2 (length q) (omega (arith, b.fits)) in
    let others : take (length p) (p ++ a.rest) ≡ take (length p) (q ++ b.rest) = ap (λ (l : List ℕ). take (length p) (drop 4 l)) both in (
      sym (from_be_bytes-to_be_bytes_2 n (omega (arith, a.is_channel))) ∙ first ∙ from_be_bytes-to_be_bytes_2 m (omega (arith, b.is_channel)),
      sym (take_at p a.rest (length p) refl) ∙ others ∙ take_at q b.rest (length p) (sym size),
    )

module _ (c : Contents) (f : FiveTuple) (bytes : List ℕ) where
  pub of_channel_data : (number : ℕ) (payload : List ℕ) (o : Option PeerData) → EncodesChannelData bytes number payload
      → o ≡ sent_by_channel_data (fin.get c.entries f) number payload → SendsToPeer c f bytes o
  of_channel_data number payload o found is = record {
    message = λ m s. absurd (not_both bytes m number payload s found);
    channel_data = λ n p s. (
        let same = one_channel_data bytes number n payload p found s in
        is ∙ ap (λ k. sent_by_channel_data (fin.get c.entries f) k payload) same.0 ∙ ap (sent_by_channel_data (fin.get c.entries f) n) same.1);
    neither = λ _ none. absurd (none number payload found);
  }

  pub of_message : (d : Content) (o : Option PeerData) → Encodes bytes d → o ≡ sent_by_message (fin.get c.entries f) (record { bytes = bytes; content = d })
      → SendsToPeer c f bytes o
  of_message d o found is = record {
    message = λ m s. is ∙ ap (λ (k : Content). sent_by_message (fin.get c.entries f) (record { bytes = bytes; content = k })) (one_message bytes bytes [] [] d m found s refl).1;
    channel_data = λ n p s. absurd (not_both bytes d n p found s);
    neither = λ none _. absurd (none d found);
  }

  pub of_neither : ((m : Content) → ¬ Encodes bytes m) → ((n : ℕ) (p : List ℕ) → ¬ EncodesChannelData bytes n p) → SendsToPeer c f bytes None
  of_neither no_message no_channel_data = record {
    message = λ m s. absurd (no_message m s);
    channel_data = λ n p s. absurd (no_channel_data n p s);
    neither = λ _ _. refl;
  }

-- what a datagram sends depends on the entry of its five-tuple
pub same_entry : (c d : Contents) (f : FiveTuple) (bytes : List ℕ) (o : Option PeerData) → fin.get c.entries f ≡ fin.get d.entries f → SendsToPeer c f bytes o → SendsToPeer d f bytes o
same_entry c d f bytes o same s = record {
  message = λ m encodes. s.message m encodes ∙ ap (λ e. sent_by_message e (record { bytes = bytes; content = m })) same;
  channel_data = λ n p encodes. s.channel_data n p encodes ∙ ap (λ e. sent_by_channel_data e n p) same;
  neither = s.neither;
}
