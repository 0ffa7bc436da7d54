-- The definitions give the published numbers.
use Rattle.std.specs.Prelude.{◌≡◌, [], ◌∷◌, refl, codes}
use Rattle.std.specs.Hash.{le_bytes}
use Rattle.sketch_base.specs.Hashes.{seed_hash}
use Rattle.sketch_base.specs.Murmur3.{murmur3_x64_128, block_of_words, block, body, finish_words, finalization, mix_k1, mix_k2, fmix64}
use Rattle.sketch_base.specs.SipHash as sip
use Rattle.sketch_base.specs.SipHash.{sip_hash, sip_hash_1_3, padded, words, compression, sip_round, sip_rounds}
use Rattle.sketch_base.specs.Xxh64 as xxh
use Rattle.sketch_base.specs.Xxh64.{xxh64, round, initial_accumulators, stripe, stripes, merge_accumulator, convergence, consume_word, consume_half_word, consume_byte, consume_words, consume_bytes, avalanche}

-- Murmur3 of no bytes
murmur3_empty : murmur3_x64_128 [] 0 ≡ (0, 0)
unfolding murmur3_x64_128 body finish_words finalization mix_k1 mix_k2 fmix64
murmur3_empty = refl

-- Murmur3 of 43 bytes
murmur3_fox : murmur3_x64_128 (codes "The quick brown fox jumps over the lazy dog") 0 ≡ (0xE34BBC7BBC071B6C, 0x7A433CA9C49A9347)
unfolding murmur3_x64_128 block_of_words block body finish_words finalization mix_k1 mix_k2 fmix64
murmur3_fox = refl

-- XXH64 of no bytes
xxh64_empty : xxh64 [] 0 ≡ 0xEF46DB3751D8E999
unfolding xxh64 stripes xxh.finalization consume_words consume_bytes avalanche
xxh64_empty = refl

-- XXH64 of three bytes
xxh64_abc : xxh64 (codes "abc") 0 ≡ 0x44BC2CF5AD770999
unfolding xxh64 stripes xxh.finalization consume_byte consume_words consume_bytes avalanche
xxh64_abc = refl

-- XXH64 of a stripe and seven bytes
xxh64_long : xxh64 (codes "Nobody inspects the spammish repetition") 0 ≡ 0xFBCEA83C8A378BF1
unfolding xxh64 round initial_accumulators stripe stripes merge_accumulator convergence xxh.finalization consume_word consume_half_word consume_byte consume_words consume_bytes avalanche
xxh64_long = refl

-- the hash of the usual seed
seed_hash_default : seed_hash 9001 ≡ 0x93CC
unfolding seed_hash le_bytes murmur3_x64_128 body finish_words finalization mix_k1 mix_k2 fmix64
seed_hash_default = refl

-- SipHash-2-4 and SipHash-1-3 of 15 bytes, under the key of the bytes 0 to 15
sip_hash_2_4_vector : sip_hash 2 4 (0x0706050403020100, 0x0F0E0D0C0B0A0908) (0 ∷ 1 ∷ 2 ∷ 3 ∷ 4 ∷ 5 ∷ 6 ∷ 7 ∷ 8 ∷ 9 ∷ 10 ∷ 11 ∷ 12 ∷ 13 ∷ 14 ∷ []) ≡ 0xA129CA6149BE45E5
unfolding sip_hash padded words sip.initialization compression sip.finalization sip_round sip_rounds
sip_hash_2_4_vector = refl

sip_hash_1_3_vector : sip_hash_1_3 (0x0706050403020100, 0x0F0E0D0C0B0A0908) (0 ∷ 1 ∷ 2 ∷ 3 ∷ 4 ∷ 5 ∷ 6 ∷ 7 ∷ 8 ∷ 9 ∷ 10 ∷ 11 ∷ 12 ∷ 13 ∷ 14 ∷ []) ≡ 0xD320D86D2A519956
unfolding sip_hash padded words sip.initialization compression sip.finalization sip_round sip_rounds
sip_hash_1_3_vector = refl
