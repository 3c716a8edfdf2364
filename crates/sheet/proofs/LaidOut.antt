-- Where records and pieces stand in a sheet whose pieces stand without gaps. Assumes nothing.
use Prim.Native.Nat.{ℕ, ◌+◌, ◌≤◌, ◌<◌}
use mathlib.Core.List.{List}
use lib.ListN.{length}
use native.Mathlib.Omega.{arith}
use Rattle.sheet.specs.Fields.{font_count, item_count, font_at, item_at, pieces_at, atlas_offset, atlas_length, mapping_offset, mapping_length, slot_offset, slot_size}
use Rattle.sheet.specs.Pieces.{font_pieces, slot_pieces, pieces_of, pieces}
use Rattle.sheet.specs.Conforming.{Headed, Chain}
use Rattle.sheet.specs.Accepted.{LaidOut}
use Rattle.sheet.proofs.Chains.{Between, chain_le, chain_split, chain_at, chain_apart}

record FontBetween (b : List ℕ) (p q k : ℕ) : Type 0 where
  atlas-from : p ≤ atlas_offset b (font_at k)
  atlas-to : atlas_offset b (font_at k) + atlas_length b (font_at k) ≤ q
  mapping-from : p ≤ mapping_offset b (font_at k)
  mapping-to : mapping_offset b (font_at k) + mapping_length b (font_at k) ≤ q

font-between : (b : List ℕ) (k p q : ℕ) → Between (font_pieces b k) p q → FontBetween b p q k
unfolding font_pieces Chain
font-between b k p q h = let a = h.chain.0 in let m = h.chain.1.0 in let e = h.chain.1.1 in omega (arith, h.after, h.before)

record SlotBetween (b : List ℕ) (p q j : ℕ) : Type 0 where
  slot-from : p ≤ slot_offset b (item_at b j)
  slot_to : slot_offset b (item_at b j) + slot_size b (item_at b j) ≤ q

slot_between : (b : List ℕ) (j p q : ℕ) → Between (slot_pieces b j) p q → SlotBetween b p q j
unfolding slot_pieces Chain
slot_between b j p q h = let a = h.chain.0 in let e = h.chain.1 in omega (arith, h.after, h.before)

pub laid_out : (b : List ℕ) → Headed b → Chain (pieces b) (pieces_at b) (length b) → LaidOut b
unfolding pieces
laid_out b g h =
    let s = chain_split (pieces_of (font_pieces b) (font_count b) 0) (pieces_of (slot_pieces b) (item_count b) 0) (pieces_at b) (length b) h in
    let d = chain_le (pieces_of (font_pieces b) (font_count b) 0) (pieces_at b) s.at s.first in
    let e = chain_le (pieces_of (slot_pieces b) (item_count b) 0) s.at (length b) s.second in
    let font : (k : ℕ) → k < font_count b → FontBetween b (pieces_at b) s.at k = λ k l. font-between b k (pieces_at b) s.at (chain_at (font_pieces b) (font_count b) 0 (pieces_at b) s.at s.first k (omega arith) (omega arith)) in
    let slot : (j : ℕ) → j < item_count b → SlotBetween b s.at (length b) j = λ j l. slot_between b j s.at (length b) (chain_at (slot_pieces b) (item_count b) 0 s.at (length b) s.second j (omega arith) (omega arith)) in
    record {
      headed = g;
      records_in = omega arith;
      font_in = λ k l. let q = font k l in record { record_in = omega arith; atlas_in = omega arith; mapping_in = omega arith };
      item_in = λ j l. let q = slot j l in record { record_in = omega arith; slot_in = q.slot_to };
      slot_after = λ j l. omega (arith, slot j l);
      slots_apart = λ i j l m.
          let a = chain_apart (slot_pieces b) (item_count b) 0 s.at (length b) s.second i j (omega arith) l (omega arith) in
          omega (arith, slot_between b i s.at a.at a.first, slot_between b j a.at (length b) a.second);
      atlas_after = λ k l. (font k l).atlas-from;
      atlas_before = λ k j l m. omega (arith, font k l, slot j m);
      mapping_after = λ k l. (font k l).mapping-from;
      mapping_before = λ k j l m. omega (arith, font k l, slot j m);
    }
