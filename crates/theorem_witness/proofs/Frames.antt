-- The frames of the witness of demand 3, their digests as SHA-256 computes them: the blocks of rounds 1, 3 and 4, with empty entries,
-- each on the one before, the blames of replicas 0 and 2 for round 2, and two blocks of round 2 on block 1, one of them with an entry.
-- Assumes nothing.
use Prim.Native.Nat.{ℕ}
use mathlib.Core.Path.{◌≡◌, refl, sym}
use mathlib.Core.List.{List, [], ◌∷◌, ◌++◌}
use mathlib.Core.Bool.{true}
use Rattle.sha256.specs.Fips.{K, padded, schedule, t1, round, rounds, plus, compress, hash, sha256}
use Rattle.apollo.specs.Bytes.{zeros}
use Rattle.apollo.specs.Frame.{checked, block_head, blame_head}
use Rattle.apollo.proofs.Tests.{same_of}

-- the digests of the blocks and of the blames
unfoldable pub d1 : List ℕ
d1 =
    0x28 ∷ 0x69 ∷ 0x1e ∷ 0xa6 ∷ 0x77 ∷ 0x45 ∷ 0x57 ∷ 0x41 ∷ 0x31 ∷ 0x71 ∷ 0x44 ∷ 0x47 ∷ 0xea ∷ 0x1d ∷ 0xac ∷ 0x05
    ∷ 0x27 ∷ 0xf5 ∷ 0x1b ∷ 0x14 ∷ 0xb2 ∷ 0x59 ∷ 0x86 ∷ 0x2f ∷ 0x78 ∷ 0x31 ∷ 0x5a ∷ 0xd7 ∷ 0x10 ∷ 0x36 ∷ 0x25 ∷ 0x10
    ∷ []

unfoldable pub d3 : List ℕ
d3 =
    0x66 ∷ 0xfc ∷ 0x1d ∷ 0x6d ∷ 0xdb ∷ 0xf3 ∷ 0x63 ∷ 0x14 ∷ 0x40 ∷ 0xff ∷ 0x63 ∷ 0xc8 ∷ 0x93 ∷ 0xcc ∷ 0x51 ∷ 0x97
    ∷ 0xb3 ∷ 0x8e ∷ 0xb8 ∷ 0x35 ∷ 0x86 ∷ 0x54 ∷ 0x59 ∷ 0xdb ∷ 0xa0 ∷ 0x51 ∷ 0x92 ∷ 0x6e ∷ 0xcf ∷ 0x7f ∷ 0x91 ∷ 0xfa
    ∷ []

unfoldable pub d4 : List ℕ
d4 =
    0xf1 ∷ 0x77 ∷ 0xbc ∷ 0x1e ∷ 0x1a ∷ 0xa4 ∷ 0xa4 ∷ 0x4e ∷ 0xec ∷ 0xf5 ∷ 0xa4 ∷ 0x81 ∷ 0xbc ∷ 0x94 ∷ 0x97 ∷ 0xa9
    ∷ 0x08 ∷ 0xf8 ∷ 0x0d ∷ 0x2d ∷ 0xb7 ∷ 0x29 ∷ 0x8e ∷ 0xb6 ∷ 0x22 ∷ 0xd1 ∷ 0x62 ∷ 0x4c ∷ 0xc3 ∷ 0x19 ∷ 0x6a ∷ 0xb6
    ∷ []

unfoldable pub d2 : List ℕ
d2 =
    0x22 ∷ 0x49 ∷ 0xdf ∷ 0x93 ∷ 0x8d ∷ 0x17 ∷ 0xf9 ∷ 0xd8 ∷ 0x71 ∷ 0x0c ∷ 0x47 ∷ 0x7e ∷ 0x73 ∷ 0xa9 ∷ 0x97 ∷ 0x20
    ∷ 0xbd ∷ 0xe5 ∷ 0x16 ∷ 0xbb ∷ 0x68 ∷ 0x81 ∷ 0xb2 ∷ 0xd8 ∷ 0xc4 ∷ 0x43 ∷ 0x5f ∷ 0xa9 ∷ 0x9c ∷ 0xf7 ∷ 0x97 ∷ 0xeb
    ∷ []

unfoldable pub d2' : List ℕ
d2' =
    0x26 ∷ 0x39 ∷ 0x22 ∷ 0x49 ∷ 0x96 ∷ 0x77 ∷ 0x6c ∷ 0x52 ∷ 0xbf ∷ 0xb3 ∷ 0xca ∷ 0x1d ∷ 0x91 ∷ 0x1e ∷ 0xd2 ∷ 0xc7
    ∷ 0xb2 ∷ 0xe6 ∷ 0xd8 ∷ 0x83 ∷ 0x2e ∷ 0x58 ∷ 0x20 ∷ 0x1f ∷ 0xf1 ∷ 0x68 ∷ 0xe0 ∷ 0xff ∷ 0x46 ∷ 0xd0 ∷ 0x31 ∷ 0x83
    ∷ []

unfoldable pub e0 : List ℕ
e0 =
    0xc0 ∷ 0x1f ∷ 0xa5 ∷ 0x85 ∷ 0x20 ∷ 0x87 ∷ 0xf2 ∷ 0xaa ∷ 0x48 ∷ 0xe5 ∷ 0xe5 ∷ 0xcd ∷ 0x82 ∷ 0x41 ∷ 0x56 ∷ 0xf8
    ∷ 0x1d ∷ 0xc3 ∷ 0xca ∷ 0x94 ∷ 0x58 ∷ 0xd1 ∷ 0x4a ∷ 0x21 ∷ 0x89 ∷ 0x9c ∷ 0x45 ∷ 0x0c ∷ 0x5a ∷ 0xd1 ∷ 0x12 ∷ 0xe1
    ∷ []

unfoldable pub e2 : List ℕ
e2 =
    0xa4 ∷ 0x8c ∷ 0x77 ∷ 0x15 ∷ 0x27 ∷ 0x7c ∷ 0xfb ∷ 0x8f ∷ 0x1a ∷ 0xce ∷ 0x1f ∷ 0xb7 ∷ 0x2b ∷ 0x5c ∷ 0x28 ∷ 0x9d
    ∷ 0xee ∷ 0x65 ∷ 0xf6 ∷ 0xf0 ∷ 0x35 ∷ 0x9a ∷ 0x52 ∷ 0x45 ∷ 0x20 ∷ 0x3c ∷ 0xbf ∷ 0x7e ∷ 0x4d ∷ 0xaa ∷ 0x6d ∷ 0x2b
    ∷ []

-- bytes 0–479 of each
unfoldable pub head1 : List ℕ
head1 = block_head 2 1 1 (zeros 32) []

unfoldable pub head3 : List ℕ
head3 = block_head 0 3 2 d1 []

unfoldable pub head4 : List ℕ
head4 = block_head 2 4 3 d3 []

unfoldable pub head2 : List ℕ
head2 = block_head 1 2 2 d1 []

unfoldable pub head2' : List ℕ
head2' = block_head 1 2 2 d1 (1 ∷ [])

unfoldable pub head_m0 : List ℕ
head_m0 = blame_head 0 2

unfoldable pub head_m2 : List ℕ
head_m2 = blame_head 2 2

-- the frames
unfoldable pub b1 : List ℕ
b1 = head1 ++ d1

unfoldable pub b3 : List ℕ
b3 = head3 ++ d3

unfoldable pub b4 : List ℕ
b4 = head4 ++ d4

unfoldable pub b2 : List ℕ
b2 = head2 ++ d2

unfoldable pub b2' : List ℕ
b2' = head2' ++ d2'

unfoldable pub m0 : List ℕ
m0 = head_m0 ++ e0

unfoldable pub m2 : List ℕ
m2 = head_m2 ++ e2

-- the digests are right
pub name1 : sha256 head1 ≡ d1
unfolding K padded schedule t1 round rounds plus compress hash sha256 head1 d1 block_head zeros
name1 = refl

pub name3 : sha256 head3 ≡ d3
unfolding K padded schedule t1 round rounds plus compress hash sha256 head3 d1 d3 block_head zeros
name3 = refl

pub name4 : sha256 head4 ≡ d4
unfolding K padded schedule t1 round rounds plus compress hash sha256 head4 d3 d4 block_head zeros
name4 = refl

name2 : sha256 head2 ≡ d2
unfolding K padded schedule t1 round rounds plus compress hash sha256 head2 d1 d2 block_head zeros
name2 = refl

name2' : sha256 head2' ≡ d2'
unfolding K padded schedule t1 round rounds plus compress hash sha256 head2' d1 d2' block_head zeros
name2' = refl

pub name_m0 : sha256 head_m0 ≡ e0
unfolding K padded schedule t1 round rounds plus compress hash sha256 head_m0 e0 blame_head zeros
name_m0 = refl

pub name_m2 : sha256 head_m2 ≡ e2
unfolding K padded schedule t1 round rounds plus compress hash sha256 head_m2 e2 blame_head zeros
name_m2 = refl

-- so the checks are
pub checked1 : checked sha256 b1 ≡ true
unfolding checked b1 head1 d1 block_head zeros
checked1 = same_of (sym name1)

pub checked3 : checked sha256 b3 ≡ true
unfolding checked b3 head3 d1 d3 block_head zeros
checked3 = same_of (sym name3)

pub checked4 : checked sha256 b4 ≡ true
unfolding checked b4 head4 d3 d4 block_head zeros
checked4 = same_of (sym name4)

pub checked2 : checked sha256 b2 ≡ true
unfolding checked b2 head2 d1 d2 block_head zeros
checked2 = same_of (sym name2)

pub checked2' : checked sha256 b2' ≡ true
unfolding checked b2' head2' d1 d2' block_head zeros
checked2' = same_of (sym name2')

pub checked_m0 : checked sha256 m0 ≡ true
unfolding checked m0 head_m0 e0 blame_head zeros
checked_m0 = same_of (sym name_m0)

pub checked_m2 : checked sha256 m2 ≡ true
unfolding checked m2 head_m2 e2 blame_head zeros
checked_m2 = same_of (sym name_m2)
