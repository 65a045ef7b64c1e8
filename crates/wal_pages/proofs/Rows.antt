-- Rows of places, which guard the definitions.
use Rattle.std.proofs.Common.{◌≡◌, ℕ, List, [], ◌∷◌, refl}
use Rattle.wal_pages.specs.Places.{place, flat_before, start_after, stop_of, end_of}
use Rattle.wal_pages.specs.Heads.{is_first_page, head_bytes, long_part, page_head}
use Rattle.wal_pages.specs.Spread.{still_to_come}

end_on_boundary : end_of 1 0x100090 8041 ≡ 0x102000
unfolding place flat_before stop_of
end_on_boundary = refl

start_behind_page : start_after 1 0x102000 ≡ 0x102018
unfolding place flat_before start_after
start_behind_page = refl

start_behind_segment : start_after 1 0x200000 ≡ 0x200028
unfolding place flat_before start_after
start_behind_segment = refl

end_before_boundary : end_of 1 0x100090 8033 ≡ 0x101FF8
unfolding place flat_before stop_of
end_before_boundary = refl

end_over_page : end_of 1 0x101FF8 42 ≡ 0x102040
unfolding place flat_before stop_of
end_over_page = refl

left_over_page : still_to_come 1 (flat_before 1 0x101FF8) 42 0x102000 ≡ 34
unfolding flat_before
left_over_page = refl

end_of_long : end_of 1 0x100090 8241 ≡ 0x1020E0
unfolding place flat_before stop_of
end_of_long = refl

left_of_long : still_to_come 1 (flat_before 1 0x100090) 8241 0x102000 ≡ 193
unfolding flat_before
left_of_long = refl

-- the head of the first page of segment 1, of a system 7
first_head : List ℕ
first_head =
    0x16 ∷ 0xD1 ∷ 2 ∷ 0 ∷ 1 ∷ 0 ∷ 0 ∷ 0 ∷ 0 ∷ 0 ∷ 0x10 ∷ 0 ∷ 0 ∷ 0 ∷ 0 ∷ 0 ∷ 0 ∷ 0 ∷ 0 ∷ 0 ∷ 0 ∷ 0 ∷
    0 ∷ 0 ∷ 7 ∷ 0 ∷ 0 ∷ 0 ∷ 0 ∷ 0 ∷ 0 ∷ 0 ∷ 0 ∷ 0 ∷ 0x10 ∷ 0 ∷ 0 ∷ 0x20 ∷ 0 ∷ 0 ∷ []

head_of_segment : page_head 1 7 0x100000 0 ≡ first_head
unfolding head_bytes long_part is_first_page first_head
head_of_segment = refl
