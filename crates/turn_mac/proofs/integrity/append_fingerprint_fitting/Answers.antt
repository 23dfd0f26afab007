use Rattle.std.proofs.Common.{sym, subst}
use Rattle.std.proofs.lemmas.Result.{on_ok_weaker}
use Rattle.turn_codec.specs.Prelude.{Content, fingerprint}
use Rattle.turn_mac.specs.Integrity.{canonical_datagram, IntegrityHolds, FingerprintHolds}
use Rattle.turn_mac.proofs.Appended.{fingerprint_appended, integrity_kept}
use Rattle.turn_mac.proofs.integrity.append_fingerprint_fitting.Goals as goal

pub returns-clause-holds : goal.returns-clause-holds
returns-clause-holds g c =
    let m = c.args.builder.now in
    let size = rw c.as_bytes.ensures.canonical at c.as_bytes.ensures.size in
    let value = rw c.as_bytes.ensures.canonical at c.fingerprint_value-value.ensures in
    on_ok_weaker c.push_fitting.result (λ e. subst (λ (x : Content). FingerprintHolds (canonical_datagram x)) (sym e) (fingerprint_appended m c.fingerprint_value-value.result size c.requires.none value)) c.push_fitting.ensures.ok

pub returns-clause-integrity : goal.returns-clause-integrity
returns-clause-integrity g c =
    let m = c.args.builder.now in
    let size = rw c.as_bytes.ensures.canonical at c.as_bytes.ensures.size in
    λ key held. on_ok_weaker c.push_fitting.result (λ e. subst (λ (x : Content). IntegrityHolds key (canonical_datagram x)) (sym e) (integrity_kept key m fingerprint c.fingerprint_value-value.result size held)) c.push_fitting.ensures.ok
