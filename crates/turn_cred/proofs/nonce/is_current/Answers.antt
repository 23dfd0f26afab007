use Rattle.std.proofs.Common.{◌≡◌, ℕ, arith, subst}
use Rattle.turn_types.specs.Prelude.{end_of_moments}
use Rattle.turn_cred.specs.Prelude.{is_fresh}
use Rattle.turn_cred.proofs.Requests.{current_is_fresh}
use Rattle.turn_cred.proofs.nonce.is_current.Goals as goal

pub returns-in-Some : goal.returns-in-Some
returns-in-Some c secret client w =
    let issued : c.in-Some.issued ≡ w.issued = cc (c.in-Some.is, c.second_of.ensures secret w.issued client w.fits w.text) in
    let range = c.seconds.ensures.range in
    subst (λ (t : ℕ). c.is_recent.result ≡ is_fresh secret c.args.nonce.now client t) c.seconds.ensures.value
    (current_is_fresh _ secret _ client c.seconds.result c.in-Some.issued w issued (omega (arith, c.seconds.ensures.value)) c.is_recent.ensures)
