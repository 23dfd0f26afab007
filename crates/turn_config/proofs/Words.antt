-- The words of a line are those that the splits at its blanks give.
use Rattle.std.proofs.Common.{◌≡◌, ◌≢◌, ◌^◌, ℕ, Bool, true, false, Option, Some, None, SomeIff, IfSome, List, [], ◌∷◌, ◌++◌, refl, sym, subst, ◌∙◌, arith, ◌&&◌, is_none, is_some}
use Rattle.std.specs.List.{list_all}
use Rattle.turn_types.specs.Prelude.{AreInRange}
use Rattle.turn_types.specs.declared.config.IpRange.{IpRange}
use Rattle.turn_types.specs.declared.limits.Bounds.{Bounds}
use Rattle.turn_config.specs.Lines.{is_visible, is_name, Lines, Says, IsLimits, IsRange, IsRelay, IsUser}
use Rattle.turn_config.specs.Names.{name_of}
use Rattle.turn_config.specs.Values.{number_of, IsNumberBelow, IsIp}
use Rattle.turn_config.specs.declared.settings.Relay.{Relay}
use Rattle.turn_config.specs.declared.settings.Setting.{Setting}
use Rattle.turn_config.specs.declared.settings.Setting.TheVariants as settings
use Rattle.turn_config.specs.declared.settings.Setting.TheVariants.{Realm, Secret, Listen, RelayBind, Quota, Limits, Deny, Local, User, AuthSecret}
use Rattle.turn_config.proofs.Addresses.{ip_without}
use Rattle.turn_config.proofs.Numbers.{number_without}
use Rattle.turn_config.proofs.Splits.{Without, cons_without, same_split}

pub ip_of_line : (text : List ℕ) (ip : ℕ) → IsIp text ip → Without 32 text
ip_of_line text ip n = ip_without 32 text ip (λ h. omega arith) (λ h. omega arith) n

pub number_of_line : (bound : ℕ) (text : List ℕ) → IsNumberBelow bound text → Without 32 text
number_of_line bound text n = number_without bound 32 text (λ h. omega arith) n

pub range_words : (text f r : List ℕ) (range : IpRange) (n : IsRange text range) → text ≡ f ++ 32 ∷ r → Without 32 f
    → (f ≡ n.first) × (r ≡ n.last)
range_words text f r range n e w = same_split 32 text f r n.first n.last e n.encoded w (ip_of_line n.first range.first n.from)

pub relay_words : (text f r : List ℕ) (relay : Relay) (n : IsRelay text relay) → text ≡ f ++ 32 ∷ r → Without 32 f
    → (f ≡ n.ip) × (r ≡ n.low ++ 32 ∷ n.high)
relay_words text f r relay n e w = same_split 32 text f r n.ip (n.low ++ 32 ∷ n.high) e n.encoded w (ip_of_line n.ip relay.ip n.address)

pub port_words : (text f r g s : List ℕ) (relay : Relay) (n : IsRelay text relay) → text ≡ f ++ 32 ∷ r → Without 32 f
    → r ≡ g ++ 32 ∷ s → Without 32 g → (g ≡ n.low) × (s ≡ n.high)
port_words text f r g s relay n e w e' w' =
    same_split 32 r g s n.low n.high e' (relay_words text f r relay n e w).1 w' (number_of_line (2 ^ 16) n.low n.numbers.0)

-- what a conjunction that is true says of its parts
both : (a b : Bool) → (a && b) ≡ true → (a ≡ true) × (b ≡ true)
both true b h = (refl, h)
both false b h = cc

not_blank : (byte : ℕ) → is_visible byte ≡ true → byte ≢ 32
not_blank byte h e = let bad : is_visible 32 ≡ true = subst (λ (b : ℕ). is_visible b ≡ true) e h in cc

visible_without : (text : List ℕ) → list_all is_visible text ≡ true → Without 32 text
visible_without [] h = λ k d lt. absurd (omega arith)
visible_without (x ∷ xs) h =
    let parts = both (is_visible x) (list_all is_visible xs) h in
    cons_without 32 x xs (not_blank x parts.0) (visible_without xs parts.1)

pub name_of_line : (text : List ℕ) → is_name text ≡ true → Without 32 text
name_of_line text h = visible_without text (both _ _ (both _ _ h).0).1

pub user_words : (text f r name password : List ℕ) (n : IsUser text name password) → text ≡ f ++ 32 ∷ r → Without 32 f
    → (f ≡ name) × (r ≡ password)
user_words text f r name password n e w = same_split 32 text f r name password e n.encoded w (name_of_line name n.named)

pub same_range : (first last : ℕ) (range : IpRange) → Some first ≡ Some range.first → Some last ≡ Some range.last
    → let read : IpRange = record { first = first; last = last } in Some read ≡ Some range
same_range first last range e f = let from : first ≡ range.first = cc in let to : last ≡ range.last = cc in rw (from, to) refl

pub same_relay : (ip : ℕ) (ports : ℕ × ℕ) (relay : Relay) → Some ip ≡ Some relay.ip → ports ≡ relay.ports
    → let read : Relay = record { ip = ip; ports = ports } in Some read ≡ Some relay
same_relay ip ports relay e f = let same : ip ≡ relay.ip = cc in rw (same, f) refl

pub limits_words : (text f r : List ℕ) (bounds : Bounds) (n : IsLimits text bounds) → text ≡ f ++ 32 ∷ r → Without 32 f
    → (f ≡ n.a) × (r ≡ n.p ++ 32 ∷ (n.c ++ 32 ∷ (n.f ++ 32 ∷ n.n)))
limits_words text f r bounds n e w =
    same_split 32 text f r n.a (n.p ++ 32 ∷ (n.c ++ 32 ∷ (n.f ++ 32 ∷ n.n))) e n.encoded w (number_of_line (2 ^ 32) n.a n.first)

-- one more word, below 2^16
pub next_word : (text f r a b : List ℕ) → IsNumberBelow (2 ^ 16) a → text ≡ a ++ 32 ∷ b → text ≡ f ++ 32 ∷ r → Without 32 f → (f ≡ a) × (r ≡ b)
next_word text f r a b n is e w = same_split 32 text f r a b e is w (number_of_line (2 ^ 16) a n)

pub limits_found : (r : Option Bounds) (b : Bounds) (P : Bounds → Type 0) → SomeIff r (AreInRange b) b → (AreInRange b → P b) → IfSome r P
limits_found None b P h f = tt
limits_found (Some x) b P h f = rw h.1 (f h.0)

pub limits_only : (r : Option Bounds) (b d : Bounds) → SomeIff r (AreInRange b) b → b ≡ d → AreInRange d → r ≡ Some d
limits_only None b d h e i = absurd (h (rw e i))
limits_only (Some x) b d h e i = rw (h.1, e) refl

pub same_bounds : (a p c f n : ℕ) (text : List ℕ) (b : Bounds) (is : IsLimits text b) → a ≡ number_of is.a → p ≡ number_of is.p → c ≡ number_of is.c
    → f ≡ number_of is.f → n ≡ number_of is.n
    → let read : Bounds = record { allocations = a; permissions = p; channels = c; acts = f; name_bytes = n } in read ≡ b
same_bounds a p c f n text b is e1 e2 e3 e4 e5 = rw (e1, e2, e3, e4, e5) (sym is.bounds_are)

pub encoded : (text a r p s c t f n : List ℕ) → text ≡ a ++ 32 ∷ r → r ≡ p ++ 32 ∷ s → s ≡ c ++ 32 ∷ t → t ≡ f ++ 32 ∷ n
    → text ≡ a ++ 32 ∷ (p ++ 32 ∷ (c ++ 32 ∷ (f ++ 32 ∷ n)))
encoded text a r p s c t f n e1 e2 e3 e4 = rw (e1, e2, e3, e4) refl

pub name_of_setting : (setting : Setting) → Without 32 (name_of setting)
name_of_setting Realm = visible_without (name_of Realm) refl
name_of_setting Secret = visible_without (name_of Secret) refl
name_of_setting Listen = visible_without (name_of Listen) refl
name_of_setting settings.Relay = visible_without (name_of settings.Relay) refl
name_of_setting RelayBind = visible_without (name_of RelayBind) refl
name_of_setting Quota = visible_without (name_of Quota) refl
name_of_setting Limits = visible_without (name_of Limits) refl
name_of_setting Deny = visible_without (name_of Deny) refl
name_of_setting Local = visible_without (name_of Local) refl
name_of_setting User = visible_without (name_of User) refl
name_of_setting AuthSecret = visible_without (name_of AuthSecret) refl

-- the first word of a line that says something, and the rest of the line
pub setting_words : (line f r : List ℕ) (old new : Lines) (n : Says line old new) → line ≡ f ++ 32 ∷ r → Without 32 f
    → (f ≡ name_of n.setting) × (r ≡ n.text)
setting_words line f r old new n e w = same_split 32 line f r (name_of n.setting) n.text e n.encoded w (name_of_setting n.setting)

-- what is set where nothing was, is set
pub is_put : {T : Type 0} (place value : Option T) (x : T) (result : Bool) → result ≡ (is_none place && is_some value) → place ≡ None
    → value ≡ Some x → result ≡ true
is_put place value x result e p v = e ∙ rw (p, v) refl
