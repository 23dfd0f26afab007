use Rattle.std.proofs.Common.{◌≡◌, ℕ, ◌+◌, ◌∷◌, [], ◌++◌, List, length, refl, ap, ◌∙◌, arith, Option}
use Rattle.std.specs.FinMap.{len-entries}
use Rattle.std.specs.Int.{w64, to_be_bytes}
use Rattle.turn_history.specs.Prelude.{allocation_of, Entry, FiveTuple, Token}
use Rattle.turn_history.specs.declared.channel.Channel.{Channel}
use Rattle.turn_record.specs.Prelude.{each, five_tuple, allocation, mark, permission, permissions, channel, channels, entry}
use Rattle.turn_record.proofs.Appended.{appended, no_more}
use Rattle.turn_record.proofs.SnapshotSizes.{entry_size_most, grown, mark_at_most, permissions_are, channels_are, size_allocation, size_permission_list}
use Rattle.turn_record.specs.declared.version.Version.{Version}
use Rattle.turn_record.proofs.entry_bytes.EntryBytes.hold.Goals as goal

-- the mark of the token that an entry has
marked_by : (before now : List ℕ) (v : Version) (token has : Option Token) → now ≡ before ++ mark v token → token ≡ has → now ≡ before ++ mark v has
marked_by before now v token has p same = p ∙ ap (λ (o : Option Token). before ++ mark v o) same

-- the size of what is held before the permissions
before_permissions : (v : Version) (f : FiveTuple) (e : Entry) (s0 s1 s2 s3 s4 expiry : List ℕ) (has : Option Token) → s0 ≡ [] → s1 ≡ s0 ++ five_tuple f → s2 ≡ s1 ++ allocation (allocation_of e) → s3 ≡ s2 ++ mark v has → has ≡ e.token
    → s4 ≡ s3 ++ expiry → length expiry ≡ 8 → length e.tx.0 ≡ 12 → length s4 ≡ 40 + length e.user + length (mark v e.token)
before_permissions v f e s0 s1 s2 s3 s4 expiry has start tuple made marked same put long tx =
    let one = grown s0 s1 _ 0 12 tuple (ap length start) refl in
    let two = grown s1 s2 _ _ _ made one (size_allocation e tx) in
    let three = grown s2 s3 _ _ _ (marked_by s2 s3 v has e.token marked same) two refl in
    omega (arith, grown s3 s4 expiry _ 8 put three long)

pub put_permissions-requires-clause-few : goal.put_permissions-requires-clause-few
put_permissions-requires-clause-few g c = omega (arith, ap length c.permissions.ensures, len-entries c.args.kept.now.entry.permissions, c.requires.permissions)

pub put_permissions-requires-clause-room : goal.put_permissions-requires-clause-room
put_permissions-requires-clause-room g c =
    let e = c.args.kept.now.entry in
    let held = before_permissions c.args.version c.args.tuple e _ c.put_tuple.new.self c.put_allocation.new.self c.put_mark.new.self c.put.new.self _ _ c.clear.ensures c.put_tuple.ensures c.put_allocation.ensures c.put_mark.ensures c.token.ensures
    c.put.ensures (ap length c.to_be_bytes.ensures) c.requires.tx in
    omega (arith, held, mark_at_most c.args.version e.token c.requires.token, entry_size_most c.args.version, ap length c.permissions.ensures, len-entries e.permissions, c.requires.permissions, c.requires.user)

pub put_channels-requires-clause-few : goal.put_channels-requires-clause-few
put_channels-requires-clause-few g c = omega (arith, ap length c.channels.ensures, len-entries c.args.kept.now.entry.channels, c.requires.channels)

pub put_channels-requires-clause-room : goal.put_channels-requires-clause-room
put_channels-requires-clause-room g c =
    let e = c.args.kept.now.entry in
    let held = before_permissions c.args.version c.args.tuple e _ c.put_tuple.new.self c.put_allocation.new.self c.put_mark.new.self c.put.new.self _ _ c.clear.ensures c.put_tuple.ensures c.put_allocation.ensures c.put_mark.ensures c.token.ensures
    c.put.ensures (ap length c.to_be_bytes.ensures) c.requires.tx in
    let next = grown _ c.put_permissions.new.self _ _ _ c.put_permissions.ensures held (size_permission_list c.permissions.result.now) in
    omega (arith, next, mark_at_most c.args.version e.token c.requires.token, entry_size_most c.args.version, ap length c.permissions.ensures, len-entries e.permissions, c.requires.permissions, c.requires.user, ap length c.channels.ensures, len-entries e.channels, c.requires.channels)

-- the field under another name
read_as : (before now field is : List ℕ) → now ≡ before ++ field → field ≡ is → now ≡ before ++ is
read_as before now field is p same = p ∙ ap (λ (u : List ℕ). before ++ u) same

pub returns : goal.returns
unfolding entry
returns g c =
    let e = c.args.kept.now.entry in
    let tuple = five_tuple c.args.tuple in
    let made = allocation (allocation_of e) in
    let token = mark c.args.version e.token in
    let expiry = to_be_bytes w64 e.expiry in
    let ps = permissions e.permissions in
    let cs = channels e.channels in
    let expires : c.to_be_bytes.result ≡ expiry = c.to_be_bytes.ensures ∙ ap (to_be_bytes w64) c.expiry.ensures in
    let permitted = ap (λ (xs : List (ℕ × ℕ)). (length xs ∷ []) ++ each permission xs) c.permissions.ensures ∙ permissions_are e.permissions in
    let bound = ap (λ (xs : List (ℕ × Channel)). (length xs ∷ []) ++ each channel xs) c.channels.ensures ∙ channels_are e.channels in
    let all =
    appended c.clear.new.self c.put_tuple.new.self c.put_channels.new.self tuple (made ∷ token ∷ expiry ∷ ps ∷ cs ∷ []) c.put_tuple.ensures
    (appended _ c.put_allocation.new.self _ made (token ∷ expiry ∷ ps ∷ cs ∷ []) c.put_allocation.ensures
    (appended _ c.put_mark.new.self _ token (expiry ∷ ps ∷ cs ∷ []) (marked_by _ _ c.args.version _ e.token c.put_mark.ensures c.token.ensures)
    (appended _ c.put.new.self _ expiry (ps ∷ cs ∷ []) (read_as _ _ c.to_be_bytes.result expiry c.put.ensures expires)
    (appended _ c.put_permissions.new.self _ ps (cs ∷ []) (read_as _ _ ((length c.permissions.result.now ∷ []) ++ each permission c.permissions.result.now) ps c.put_permissions.ensures permitted)
    (appended _ c.put_channels.new.self _ cs [] (read_as _ _ ((length c.channels.result.now ∷ []) ++ each channel c.channels.result.now) cs c.put_channels.ensures bound) (no_more _)))))) in
    all ∙ ap (λ (u : List ℕ). u ++ entry c.args.version (c.args.tuple, e)) c.clear.ensures
