use Rattle.std.proofs.Common.{◌≡◌, ◌≤◌, ap, sym, ◌∙◌, subst}
use Rattle.std.specs.List.{list_all}
use Rattle.std.specs.FinMap as fin
use Rattle.turn_history.specs.Prelude.{goes_with}
use Rattle.turn_history.proofs.Tests.{together, all_together}
use Rattle.turn_table.proofs.fits.fits_channel.Goals as goal
use Rattle.turn_table.proofs.fits.fits_channel.Goals.{After-go_together}
use Rattle.turn_table.proofs.fits.fits_channel.Given.{Over}

checked : (g : Over) (c : After-go_together g) → c.go_together.result ≡ list_all (goes_with c.args.number c.args.peer) (fin.entries c.args.entry.now.entry.channels)
checked g c =
    c.go_together.ensures
    ∙ ap (list_all (goes_with c.args.number c.args.peer)) (c.items.ensures ∙ ap (λ h. fin.entries h.entry.channels) c.entry.view_is)

pub returns-clause-fits : goal.returns-clause-fits
returns-clause-fits g c = (
  λ yes. (
    subst (λ k. fin.len (fin.insert c.args.entry.now.entry.permissions c.args.peer.ip 0) ≤ k) c.permissions.ensures.value (c.fits_permissions.ensures.0 c.if-not-fits_permissions.false),
    subst (λ k. fin.len (fin.insert c.args.entry.now.entry.channels c.args.number (record { peer = c.args.peer; expiry = 0 })) ≤ k) c.channels.ensures.value ((c.fits_number.ensures (record { peer = c.args.peer; expiry = 0 })).0 c.if-not-fits_number.false),
    together c.args.number c.args.peer c.args.entry.now.entry.channels (sym (checked g c) ∙ yes),
  ),
  λ fits. checked g c ∙ all_together c.args.number c.args.peer c.args.entry.now.entry.channels fits.2,
)
