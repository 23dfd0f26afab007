use Rattle.std.proofs.Common.{◌≡◌, None, ap, sym, ◌∙◌, is_some, option_map}
use Rattle.std.specs.FinMap as map
use Rattle.turn_config.specs.Lines.{Lines, passwords_of}
use Rattle.turn_config.proofs.Passwords.{has_password, is_new, adds_password}
use Rattle.turn_config.proofs.Words.{user_words, name_of_line}
use Rattle.turn_config.proofs.lines.ConfigLines.add_user.Goals as goal

pub returns-then-contains_key-clause-only : goal.returns-then-contains_key-clause-only
returns-then-contains_key-clause-only g c new sets bad =
    let user = c.in-Some.ensures.found in
    let words = user_words _ _ _ _ _ sets.2 user.encoded (name_of_line _ user.named) in
    let none : map.get (passwords_of c.self.inside.passwords.entries) c.in-Some.name.now ≡ None
    = ap (λ (l : Lines). map.get l.passwords c.in-Some.name.now) c.self.view_is ∙ rw words.0 sets.3 in
    let found = sym (has_password c.in-Some.name.now c.self.inside.passwords.entries) ∙ sym c.contains_key.ensures ∙ c.if-contains_key.true in
    let no = ap (λ x. is_some x) (sym none) ∙ found in
    cc

pub returns-clause-good : goal.returns-clause-good
returns-clause-good g c _ =
    let old = c.self.inside.passwords.entries in
    let name = c.in-Some.name.now in
    let added = ap passwords_of c.in_ok-insert.ensures.entries ∙ adds_password old c.in_ok-name.name c.in-Some.password
    ∙ ap (λ n. map.insert (passwords_of old) n c.in-Some.password.now) c.in_ok-name.ensures.items in (
      name,
      c.in-Some.password.now,
      c.in-Some.ensures.found,
      ap (λ (l : Lines). map.get l.passwords name) (sym c.self.view_is)
          ∙ is_new name old (sym c.contains_key.ensures ∙ c.if-contains_key.false),
      ap (λ m. record {
        realm = option_map (λ r. r.now) c.self.inside.realm;
        secret = c.self.inside.secret;
        listen = c.self.inside.listen;
        relay = c.self.inside.relay;
        relay_bind = c.self.inside.relay_bind;
        quota = c.self.inside.quota;
        limits = c.self.inside.limits;
        denied = c.self.inside.denied.items;
        local_peers = c.self.inside.local_peers;
        passwords = m;
        auth_secret = option_map (λ s. s.now) c.self.inside.auth_secret;
      }) added
          ∙ ap (λ (l : Lines). record l { passwords = map.insert l.passwords name c.in-Some.password.now }) c.self.view_is,
    )
