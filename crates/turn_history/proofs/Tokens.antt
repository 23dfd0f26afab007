-- Tables without tokens.
use Rattle.std.proofs.Common.{◌≡◌, ℕ, ◌≤◌, Bool, true, false, cond, Option, None, [], refl, sym, ap, ◌∙◌, nat_eq}
use Rattle.std.specs.List.{AllByRecursion}
use Rattle.std.specs.FinMap as fin
use Rattle.turn_history.specs.Prelude.{FiveTuple, Bounds, Token, IsFitting, PlainAct, Allocates, Renews, Permits, Binds, History, clock, reservation, HasNoTokens, ReservesNone, Contents, applied, purged, reservation_ahead, reserving, table}
use Rattle.turn_history.proofs.Histories.{always, no_entries}
use Rattle.turn_history.proofs.Reading.{Makes, all_applied, applied-reserved, at_alloc, get-purged_reserved, get-reserved, get-with_reservation, purged_from}

pub later : (t : ℕ) (c : Contents) → HasNoTokens c → HasNoTokens (purged t c)
later t c none = record {
  reserved = λ q. get-purged_reserved t c q ∙ ap (reservation_ahead t) (none.reserved q);
  entries = λ f e is. let x = purged_from t c f e is in sym (ap (λ y. y.token) x.3) ∙ none.entries f x.0 x.1;
}

module _ (t : ℕ) (f : FiveTuple) (c : Contents) (none : HasNoTokens c) where
  unreserved : (q port : ℕ) (token : Option Token) → token ≡ None → at_alloc t q port token (fin.get c.reserved q) ≡ None
  unreserved q port token is = ap (λ k. at_alloc t q port k (fin.get c.reserved q)) is ∙ by_test (nat_eq q port)
    where
      by_test : (b : Bool) → cond b None (fin.get c.reserved q) ≡ None
      by_test true = refl
      by_test false = none.reserved q

  made : (d : PlainAct) → ReservesNone d → Makes (λ e. e.token ≡ None) t d (fin.get c.entries f)
  made (Allocates user port granted tx token) is = is
  made (Renews granted) is = λ some x has. none.entries f x has
  made (Permits addresses) is = λ x has. none.entries f x has
  made (Binds number peer) is = λ x has. none.entries f x has

  pub acts : (d : PlainAct) → ReservesNone d → HasNoTokens (applied t f d c)
  acts d is = record {
    reserved = λ q. ap (λ m. fin.get m q) (applied-reserved t f d c) ∙ by_act d is q;
    entries = all_applied (λ g e. e.token ≡ None) t f d c none.entries (made d is);
  }
    where
      by_act : (d : PlainAct) → ReservesNone d → (q : ℕ) → fin.get (reserving t d c.reserved) q ≡ None
      by_act (Allocates user port granted tx token) is q = get-with_reservation t q port token c.reserved ∙ unreserved q port token is
      by_act (Renews granted) is q = none.reserved q
      by_act (Permits addresses) is q = none.reserved q
      by_act (Binds number peer) is q = none.reserved q

pub nothing : HasNoTokens (table [] 0)
unfolding reservation
nothing = record {
  reserved = λ q. get-reserved [] 0 q;
  entries = λ f e is. absurd (no_entries f e is);
}

pub all : (b : Bounds) (h : History) (t : ℕ) → IsFitting b h → clock h ≤ t → AllByRecursion (λ e. ReservesNone e.act) h → HasNoTokens (table h t)
all b h t fits below none =
    always b (λ e. ReservesNone e.act) (λ t. HasNoTokens) (λ s t c le. later t c) (λ e c is fits none. acts e.moment e.tuple c none e.act is) nothing h t fits none below
