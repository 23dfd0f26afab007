use Rattle.std.proofs.Common.{◌∙◌, Bool, Ok, refl, sym, subst}
use Rattle.std.proofs.lemmas.Result.{err_from_is_err_and}
use Rattle.turn_store.specs.Opening.{Opening}
use Rattle.turn_store.proofs.store.Store.open_as.Goals as goal

pub returns-in_err-opened : goal.returns-in_err-opened
returns-in_err-opened g c = let is = c.in_err-opened.ensures in let p = err_from_is_err_and c.from_residual.result c.from_residual.ensures.1 in rw (p.1, p.2) (record {
  uses = is.uses;
  bounds = tt;
  runs = tt;
  holds = tt;
  stop = is.stop;
  version = is.version;
  same = λ no. is.same refl;
  stop_kept = λ no. is.stop_kept refl;
  settled = is.settled;
  opened = tt;
  why = is.why;
  carried = tt;
  recovers = tt;
  sound = is.sound;
})

pub returns-then-not-carry : goal.returns-then-not-carry
returns-then-not-carry g c = subst (λ (b : Bool). Opening g.D.Disk c.args.disk c.args.limits b (Ok c.in_ok-opened.opened)) (sym c.if-not-carry.true) c.in_ok-opened.ensures

pub carry_over-requires-clause-limits : goal.carry_over-requires-clause-limits
carry_over-requires-clause-limits g c = c.in_ok-opened.ensures.bounds.1 ∙ sym c.in_ok-opened.ensures.bounds.0

pub returns : goal.returns
returns g c = subst (λ (b : Bool). Opening g.D.Disk c.args.disk c.args.limits b c.carry_over.result) (sym c.if-not-carry.false) (c.carry_over.ensures.opens c.args.disk c.args.limits c.in_ok-opened.ensures)
