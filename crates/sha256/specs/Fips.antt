-- SHA-256 as FIPS 180-4 defines it; each part begins with the standard's section. The hash value over the blocks is defined in
-- the crate compression. A byte is a number below 256, a message a list of bytes, and a name of the standard's is kept where it has
-- one.
use Rattle.std.specs.Prelude.{List, [], ◌∷◌, ◌++◌, ℕ, ◌-◌, ◌*◌, ◌/◌, ◌%◌, ◌^◌, length, replicate}
use Rattle.compression.specs.declared.State.{State}
pub use Rattle.compression.specs.Fips.{block}
unfoldable pub use Rattle.compression.specs.Fips.{K, schedule, t1, round, rounds, plus, compress, hash}

-- 3.1, 3: a word in four bytes, the most significant first
abbrev pub bytes4 : ℕ → List ℕ
bytes4 x = x / 2 ^ 24 % 256 ∷ x / 2 ^ 16 % 256 ∷ x / 2 ^ 8 % 256 ∷ x % 256 ∷ []

-- 5.1.1: how many zero bytes follow the byte 0x80 (a one and seven zeros) of a message of l bytes: as few as bring the
-- whole to 56 bytes modulo 64, which leaves 8 of the last block
abbrev pub zeros : ℕ → ℕ
zeros l = (119 - l % 64) % 64

-- a number in eight bytes, the most significant first
abbrev pub bytes8 : ℕ → List ℕ
bytes8 n = bytes4 (n / 2 ^ 32) ++ bytes4 n

-- 5.1.1: the padded message. Its length in bits is below 2 ^ 64 in the standard; past that it is taken modulo 2 ^ 64
unfoldable pub padded : List ℕ → List ℕ
padded m = m ++ (0x80 ∷ (replicate (zeros (length m)) 0 ++ bytes8 (8 * length m % 2 ^ 64)))

-- 5.3.3: the initial hash value
abbrev pub H0 : State
H0 =
    record {
      a = 0x6a09_e667;
      b = 0xbb67_ae85;
      c = 0x3c6e_f372;
      d = 0xa54f_f53a;
      e = 0x510e_527f;
      f = 0x9b05_688c;
      g = 0x1f83_d9ab;
      h = 0x5be0_cd19;
    }

-- 6.2.2: the digest, the eight words of the last hash value
abbrev pub bytes_of : State → List ℕ
bytes_of s =
    bytes4 s.a ++ bytes4 s.b ++ bytes4 s.c ++ bytes4 s.d ++ bytes4 s.e ++ bytes4 s.f ++ bytes4 s.g
    ++ bytes4 s.h

unfoldable pub sha256 : List ℕ → List ℕ
sha256 m = let p : List ℕ = padded m in bytes_of (hash H0 p (length p / 64))
