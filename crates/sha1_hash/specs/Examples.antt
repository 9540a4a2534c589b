-- The digests of three messages, as antt computes them from the definition: the empty one, FIPS 180-4's one-block example, "abc", and its
-- two-block example, of 56 bytes, whose padding takes a block of its own. Assumes nothing.
use Rattle.std.specs.Prelude.{◌≡◌, [], ◌∷◌, refl}
use Rattle.wire.specs.BigEndian.{be_at, bytes_of}
use Rattle.sha1_hash.specs.Sha1.{rotl, ch, parity, maj, mix_of, const_of, zeros_of, padding, initial, words_of, next_word, extend, schedule, turn, rounds, added, compress, hash_blocks, digest_of, sha1}

nothing : sha1 [] ≡ 0xda ∷ 0x39 ∷ 0xa3 ∷ 0xee ∷ 0x5e ∷ 0x6b ∷ 0x4b ∷ 0x0d ∷ 0x32 ∷ 0x55 ∷ 0xbf ∷ 0xef ∷ 0x95 ∷ 0x60 ∷ 0x18 ∷ 0x90 ∷ 0xaf ∷ 0xd8 ∷ 0x07 ∷ 0x09 ∷ []
unfolding be_at bytes_of rotl ch parity maj mix_of const_of zeros_of padding initial words_of next_word extend schedule turn rounds added compress hash_blocks digest_of sha1
nothing = refl

abc : sha1 (97 ∷ 98 ∷ 99 ∷ []) ≡ 0xa9 ∷ 0x99 ∷ 0x3e ∷ 0x36 ∷ 0x47 ∷ 0x06 ∷ 0x81 ∷ 0x6a ∷ 0xba ∷ 0x3e ∷ 0x25 ∷ 0x71 ∷ 0x78 ∷ 0x50 ∷ 0xc2 ∷ 0x6c ∷ 0x9c ∷ 0xd0 ∷ 0xd8 ∷ 0x9d ∷ []
unfolding be_at bytes_of rotl ch parity maj mix_of const_of zeros_of padding initial words_of next_word extend schedule turn rounds added compress hash_blocks digest_of sha1
abc = refl

two_blocks : sha1 (97 ∷ 98 ∷ 99 ∷ 100 ∷ 98 ∷ 99 ∷ 100 ∷ 101 ∷ 99 ∷ 100 ∷ 101 ∷ 102 ∷ 100 ∷ 101 ∷ 102 ∷ 103 ∷ 101 ∷ 102 ∷ 103 ∷ 104 ∷ 102 ∷ 103 ∷ 104 ∷ 105 ∷ 103 ∷ 104 ∷ 105 ∷ 106 ∷ 104 ∷ 105 ∷ 106 ∷ 107 ∷ 105 ∷ 106 ∷ 107 ∷ 108 ∷ 106 ∷ 107 ∷ 108 ∷ 109 ∷ 107 ∷ 108 ∷ 109 ∷ 110 ∷ 108 ∷ 109 ∷ 110 ∷ 111 ∷ 109 ∷ 110 ∷ 111 ∷ 112 ∷ 110 ∷ 111 ∷ 112 ∷ 113 ∷ []) ≡ 0x84 ∷ 0x98 ∷ 0x3e ∷ 0x44 ∷ 0x1c ∷ 0x3b ∷ 0xd2 ∷ 0x6e ∷ 0xba ∷ 0xae ∷ 0x4a ∷ 0xa1 ∷ 0xf9 ∷ 0x51 ∷ 0x29 ∷ 0xe5 ∷ 0xe5 ∷ 0x46 ∷ 0x70 ∷ 0xf1 ∷ []
unfolding be_at bytes_of rotl ch parity maj mix_of const_of zeros_of padding initial words_of next_word extend schedule turn rounds added compress hash_blocks digest_of sha1
two_blocks = refl
