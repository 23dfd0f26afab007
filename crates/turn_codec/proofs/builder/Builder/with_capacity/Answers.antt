use Rattle.std.proofs.Common.{List, ℕ, [], ◌++◌, ap, ◌∙◌, refl, arith}
use Rattle.turn_codec.specs.Prelude.{Content}
use Rattle.turn_codec.proofs.Building.{canonical_says}
use Rattle.turn_codec.proofs.builder.Builder.with_capacity.Goals as goal

pub invariant_of-result : goal.invariant_of-result
invariant_of-result g c =
    let m : Content = record { class = c.args.class; method = c.args.method; tx = c.args.tx.0; attributes = [] } in
    let bytes-are = c.in_ok-extend_from_slice.ensures.items ∙ ap (λ (b : List ℕ). b ++ c.header.result) c.in_ok-bytes.ensures.items ∙ c.header.ensures.encoding in
    (canonical_says m _ bytes-are c.number.ensures.range c.header.ensures.tx_size (omega arith) refl).0

pub returns : goal.returns
returns g c =
    let m : Content = record { class = c.args.class; method = c.args.method; tx = c.args.tx.0; attributes = [] } in
    let bytes-are = c.in_ok-extend_from_slice.ensures.items ∙ ap (λ (b : List ℕ). b ++ c.header.result) c.in_ok-bytes.ensures.items ∙ c.header.ensures.encoding in
    (canonical_says m _ bytes-are c.number.ensures.range c.header.ensures.tx_size (omega arith) refl).1
