-- HMAC (RFC 2104, section 2) over digests with blocks of 64 bytes, and the long-term key (RFC 8489, section 9.2.2).
use Rattle.std.specs.Prelude.{ℕ, ◌-◌, nat_le, bit_xor, replicate, map, if◌then◌else◌, List, ◌∷◌, ◌++◌, length}
use Rattle.md5.specs.Md5.{md5}

-- the key as a block: one longer than a block is replaced by its digest, and a shorter one is filled with zeros
abbrev pub key_block : (List ℕ → List ℕ) → List ℕ → List ℕ
key_block digest key =
    let short = if nat_le (length key) 64 then key else digest key in
    short ++ replicate (64 - length short) 0

-- each byte of a block, exclusive or a byte
abbrev pub masked : ℕ → List ℕ → List ℕ
masked mask block = map (λ b. bit_xor b mask) block

-- HMAC over a digest with blocks of 64 bytes: H(K xor opad, H(K xor ipad, text))
unfoldable pub hmac : (List ℕ → List ℕ) → List ℕ → List ℕ → List ℕ
hmac digest key text =
    digest (masked 0x5C (key_block digest key) ++ digest (masked 0x36 (key_block digest key) ++ text))

-- the long-term key, 16 bytes: MD5 of the user's name, a colon, the realm, a colon and the password
abbrev pub auth_key : List ℕ → List ℕ → List ℕ → List ℕ
auth_key user realm password = md5 (user ++ 58 ∷ realm ++ 58 ∷ password)
