use Rattle.std.proofs.Common.{ap, ◌∙◌, nat_cmp}
use Rattle.turn_table.specs.Prelude.{map_in, still_entry}
use Rattle.turn_table.proofs.Purging.{still-permissions, still-channels}
use Rattle.turn_table.proofs.edit.purge_entry.Goals as goal

pub returns : goal.returns
returns g c =
    let e = c.entry.inside in
    (λ j. record {
      user = e.user;
      port = e.port;
      granted = e.granted;
      tx = e.tx;
      token = e.token;
      expiry = e.expiry;
      permissions = (c.purge.ensures ∙ still-permissions c.args.moment (map_in nat_cmp e.permissions)) j;
      channels = (c.purge-2.ensures ∙ still-channels c.args.moment (map_in nat_cmp e.channels)) j;
    })
    ∙ ap (λ h. still_entry c.args.moment h.entry) c.entry.view_is
