use Rattle.std.proofs.Common.{◌≡◌, ◌∙◌, length, ap, sym, subst}
use Rattle.std.proofs.lemmas.Result.{on_ok_weaker}
use Rattle.turn_codec.specs.Prelude.{Content, body_size}
use Rattle.turn_mac.specs.Integrity.{canonical_datagram, IntegrityHolds}
use Rattle.turn_mac.proofs.Appended.{integrity_appended}
use Rattle.turn_mac.proofs.Values.{length-hmac, pushed_size}
use Rattle.turn_mac.proofs.integrity.append_integrity_fitting.Goals as goal

pub returns-clause-holds : goal.returns-clause-holds
returns-clause-holds g c =
    let m = c.args.builder.now in
    let key = c.args.key.now in
    let size = rw c.as_bytes.ensures.canonical at c.as_bytes.ensures.size in
    let value = rw c.as_bytes.ensures.canonical at c.integrity_value-value.ensures in
    on_ok_weaker c.push_fitting.result (λ e. subst (λ (x : Content). IntegrityHolds key (canonical_datagram x)) (sym e) (integrity_appended key m c.integrity_value-value.result size c.requires.none value)) c.push_fitting.ensures.ok

pub returns-clause-size : goal.returns-clause-size
returns-clause-size g c =
    let m = c.args.builder.now in
    let value = c.integrity_value-value.result in
    let value-size : length value ≡ 20 = rw c.integrity_value-value.ensures (length-hmac _ _) in
    on_ok_weaker c.push_fitting.result (λ e. ap body_size e ∙ pushed_size m.attributes value value-size) c.push_fitting.ensures.ok
