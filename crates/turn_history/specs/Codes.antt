-- Codes of the values that tables are made of, for the models of the types that hold a table.
use Rattle.std.specs.Prelude.{ℕ, List, Option, refl}
use Rattle.std.specs.Coded.{Coded, code_by, coded×, coded_ℕ, coded_list, coded_option}
use Rattle.std.specs.Ordering.{nat_cmp}
use Rattle.std.specs.FinMap as fin
use Rattle.std.specs.FinMap.{FinMap}
use Rattle.turn_types.specs.declared.limits.Bounds.{Bounds}
use Rattle.turn_history.specs.Table.{Entry, Entries, Reservations, Contents}
use Rattle.turn_types.specs.declared.address.Endpoint.{Endpoint}
use Rattle.turn_types.specs.declared.address.FiveTuple.{FiveTuple}
use Rattle.turn_history.specs.declared.channel.Channel.{Channel}
use Rattle.turn_types.specs.declared.message.TxId.{TxId}
use Rattle.turn_types.specs.declared.message.Token.{Token}
use Rattle.turn_history.specs.declared.reservation.Reservation.{Reservation}

-- an endpoint is stored as its address and its port
abbrev pub endpoint_code : Coded Endpoint
endpoint_code = code_by (ℕ × ℕ) (coded× coded_ℕ coded_ℕ) (λ a. (a.ip, a.port)) (λ p. record { ip = p.0; port = p.1 }) (λ _. refl)

-- a five-tuple is stored as the client's endpoint and the server's
abbrev pub tuple_code : Coded FiveTuple
tuple_code = code_by (Endpoint × Endpoint) (coded× endpoint_code endpoint_code) (λ f. (f.client, f.server)) (λ p. record { client = p.0; server = p.1 }) (λ _. refl)

-- a channel is stored as its peer and its expiry
abbrev pub channel_code : Coded Channel
channel_code = code_by (Endpoint × ℕ) (coded× endpoint_code coded_ℕ) (λ c. (c.peer, c.expiry)) (λ p. record { peer = p.0; expiry = p.1 }) (λ _. refl)

-- a transaction id is stored as its bytes
abbrev pub tx_code : Coded TxId
tx_code = code_by (List ℕ) (coded_list coded_ℕ) (λ t. t.0) (λ p. record { 0 = p }) (λ _. refl)

-- a token is stored as its bytes
abbrev pub token_code : Coded Token
token_code = code_by (List ℕ) (coded_list coded_ℕ) (λ t. t.0) (λ p. record { 0 = p }) (λ _. refl)

-- a reservation is stored as its token and its expiry
abbrev pub reservation_code : Coded Reservation
reservation_code = code_by (Token × ℕ) (coded× token_code coded_ℕ) (λ r. (r.token, r.expiry)) (λ p. record { token = p.0; expiry = p.1 }) (λ _. refl)

-- limits are stored as their five numbers, one after the other
abbrev pub bounds_code : Coded Bounds
bounds_code =
    code_by (ℕ × (ℕ × (ℕ × (ℕ × ℕ)))) (coded× coded_ℕ (coded× coded_ℕ (coded× coded_ℕ (coded× coded_ℕ coded_ℕ))))
    (λ b. (b.allocations, (b.permissions, (b.channels, (b.acts, b.name_bytes)))))
    (λ p. record { allocations = p.0; permissions = p.1.0; channels = p.1.1.0; acts = p.1.1.1.0; name_bytes = p.1.1.1.1 })
    (λ _. refl)

-- an entry is stored as its eight fields, one after the other
abbrev pub entry_code : Coded Entry
entry_code =
    code_by (List ℕ × (ℕ × (ℕ × (TxId × (Option Token × (ℕ × (FinMap nat_cmp ℕ × FinMap nat_cmp Channel)))))))
    (coded× (coded_list coded_ℕ) (coded× coded_ℕ (coded× coded_ℕ (coded× tx_code (coded× (coded_option token_code) (coded× coded_ℕ (coded× (fin.code coded_ℕ coded_ℕ) (fin.code coded_ℕ channel_code))))))))
    (λ e. (e.user, (e.port, (e.granted, (e.tx, (e.token, (e.expiry, (e.permissions, e.channels))))))))
    (λ p. record { user = p.0; port = p.1.0; granted = p.1.1.0; tx = p.1.1.1.0; token = p.1.1.1.1.0; expiry = p.1.1.1.1.1.0; permissions = p.1.1.1.1.1.1.0; channels = p.1.1.1.1.1.1.1 })
    (λ _. refl)

-- what a table holds is stored as its entries and its reserved ports
abbrev pub contents_code : Coded Contents
contents_code =
    code_by (Entries × Reservations) (coded× (fin.code tuple_code entry_code) (fin.code coded_ℕ reservation_code))
    (λ c. (c.entries, c.reserved)) (λ p. record { entries = p.0; reserved = p.1 }) (λ _. refl)
