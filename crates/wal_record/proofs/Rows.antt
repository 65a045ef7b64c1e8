-- Worked examples of the written form, and of what is refused.
use Rattle.std.proofs.Common.{◌≡◌, ℕ, List, [], ◌∷◌, length, replicate, take, drop, Some, None, Ok, Err, refl}
use Rattle.lsn_core.specs.Relation.{Relation}
use Rattle.lsn_core.specs.declared.ids.ForkKind.TheVariants.{Main, Init}
use Rattle.pg_page.specs.Header.{made_page, made_fields}
use Rattle.pg_page.specs.Image.{without_hole}
use Rattle.wal_pages.specs.declared.wal_heads.announce.MainHead.TheVariants.{Absent, Short}
use Rattle.wal_record.specs.declared.record.Record.{Record}
use Rattle.wal_record.specs.declared.record.Kind.{Kind}
use Rattle.wal_record.specs.declared.record.Kind.TheVariants.{Shutdown, RedoMark, NoOp, BackupEnd, Generic, Create, Truncate}
use Rattle.wal_record.specs.declared.record.BlockRef.{BlockRef}
use Rattle.wal_record.specs.declared.record.Body.{Body}
use Rattle.wal_record.specs.declared.record.Body.TheVariants.{Image, Delta}
use Rattle.wal_pages.specs.wal_heads.Announcements.{named_at}
use Rattle.wal_record.specs.Parts.{frag_at, frags_at, delta_at, creation_at}
use Rattle.wal_record.specs.Content.{id_said, delta_said, block_said, blocks_said, creation_said, blocks_alone, kind_said, said}
use Rattle.wal_pages.specs.declared.wal_heads.announce.BlockHead.{BlockHead}
use Rattle.wal_pages.specs.declared.wal_heads.announce.RelName.{RelName}
use Rattle.wal_record.specs.declared.record.Why.TheVariants as whys
use Rattle.wal_pages.specs.declared.wal_heads.header.Form.TheVariants as forms
use Rattle.wal_record.specs.Spelling.{spelling, total_of, body_of}

-- the first entry of an archive that begins at 0/100000: 50 bytes
first_entry : Record
first_entry = record { start = record { 0 = 0x100028 }; end = record { 0 = 0x100060 }; prev = record { 0 = 0 }; xid = 0; kind = Shutdown (record { 0 = 0x100028 }) }

first_entry_total : length (spelling 0 first_entry) ≡ 50
unfolding spelling first_entry
first_entry_total = refl

first_entry_front : take 20 (spelling 7 first_entry) ≡ 0x32 ∷ replicate 19 0
unfolding spelling first_entry
first_entry_front = refl

first_entry_rest : drop 24 (spelling 7 first_entry) ≡ 0xff ∷ 0x18 ∷ 0x28 ∷ 0x00 ∷ 0x10 ∷ 0x00 ∷ 0x00 ∷ 0x00 ∷ 0x00 ∷ 0x00 ∷ 0x01 ∷ 0x00 ∷ 0x00 ∷ 0x00 ∷ 0x01 ∷ 0x00 ∷ 0x00 ∷ 0x00 ∷ 0x01 ∷ replicate 7 0
unfolding spelling first_entry
first_entry_rest = refl

-- relation 16384 of database 5
abbrev relation : Relation
relation = record { db = 5; rel = 16384 }

-- the sizes of the other kinds
mark_total : total_of (RedoMark 1) ≡ 30
mark_total = refl

no_op_total : total_of NoOp ≡ 24
no_op_total = refl

end_total : total_of (BackupEnd (record { 0 = 0x100028 })) ≡ 34
end_total = refl

creation_total : total_of (Create (record { rel = relation; kind = Init })) ≡ 42
creation_total = refl

truncation_total : total_of (Truncate relation 3 7) ≡ 46
truncation_total = refl

creation_body : body_of (Create (record { rel = relation; kind = Init })) ≡ 0xff ∷ 0x10 ∷ 0x7f ∷ 0x06 ∷ 0x00 ∷ 0x00 ∷ 0x05 ∷ 0x00 ∷ 0x00 ∷ 0x00 ∷ 0x00 ∷ 0x40 ∷ 0x00 ∷ 0x00 ∷ 0x03 ∷ 0x00 ∷ 0x00 ∷ 0x00 ∷ []
creation_body = refl

truncation_body : body_of (Truncate relation 3 7) ≡ 0xff ∷ 0x14 ∷ 0x03 ∷ 0x00 ∷ 0x00 ∷ 0x00 ∷ 0x7f ∷ 0x06 ∷ 0x00 ∷ 0x00 ∷ 0x05 ∷ 0x00 ∷ 0x00 ∷ 0x00 ∷ 0x00 ∷ 0x40 ∷ 0x00 ∷ 0x00 ∷ 0x07 ∷ 0x00 ∷ 0x00 ∷ 0x00 ∷ []
truncation_body = refl

-- a block of the relation's main fork
abbrev block : ℕ → Body → BlockRef
block n body = record { at = record { fork = record { rel = relation; kind = Main }; block = n }; body = body }

-- block 7 as a page with a hole from 32 to 8160
abbrev image_of_page : Kind
image_of_page = Generic (block 7 (Image (made_page 32 8160 65)) ∷ [])

image_total : total_of image_of_page ≡ 113
unfolding made_page made_fields without_hole
image_total = refl

image_heads : take 25 (body_of image_of_page) ≡ 0x00 ∷ 0x10 ∷ 0x00 ∷ 0x00 ∷ 0x40 ∷ 0x00 ∷ 0x20 ∷ 0x00 ∷ 0x03 ∷ 0x7f ∷ 0x06 ∷ 0x00 ∷ 0x00 ∷ 0x05 ∷ 0x00 ∷ 0x00 ∷ 0x00 ∷ 0x00 ∷ 0x40 ∷ 0x00 ∷ 0x00 ∷ 0x07 ∷ 0x00 ∷ 0x00 ∷ 0x00 ∷ []
unfolding made_page made_fields without_hole
image_heads = refl

-- two blocks of one relation, each with a fragment of two bytes at place 24: the second one doesn't tell the relation again
abbrev fragment : Body
fragment = Delta (record { at = 24; bytes = 0xab ∷ 0xcd ∷ [] } ∷ [])

abbrev two_blocks : Kind
two_blocks = Generic (block 7 fragment ∷ block 8 fragment ∷ [])

delta_total : total_of (Generic (block 7 fragment ∷ [])) ≡ 50
delta_total = refl

two_heads : body_of two_blocks ≡ 0x00 ∷ 0x20 ∷ 0x06 ∷ 0x00 ∷ 0x7f ∷ 0x06 ∷ 0x00 ∷ 0x00 ∷ 0x05 ∷ 0x00 ∷ 0x00 ∷ 0x00 ∷ 0x00 ∷ 0x40 ∷ 0x00 ∷ 0x00 ∷ 0x07 ∷ 0x00 ∷ 0x00 ∷ 0x00 ∷
    0x01 ∷ 0xa0 ∷ 0x06 ∷ 0x00 ∷ 0x08 ∷ 0x00 ∷ 0x00 ∷ 0x00 ∷ 0x18 ∷ 0x00 ∷ 0x02 ∷ 0x00 ∷ 0xab ∷ 0xcd ∷ 0x18 ∷ 0x00 ∷ 0x02 ∷ 0x00 ∷ 0xab ∷ 0xcd ∷ []
two_heads = refl

-- a block's announcement with data of six bytes, by its flags, the name of its relation and its number
abbrev told : ℕ → RelName → ℕ → BlockHead
told flags name n = record { id = 0; flags = flags; data_len = 6; image = None; rel = Some name; block = n }

abbrev named : ℕ → ℕ → ℕ → RelName
named space db rel = record { space = space; db = db; rel = rel }

-- a fragment of two bytes at a place
abbrev delta : ℕ → List ℕ
delta at = at ∷ 0x00 ∷ 0x02 ∷ 0x00 ∷ 0xab ∷ 0xcd ∷ []

says_delta : said forms.Generic (told 0x20 (named 1663 5 16384) 7 ∷ []) Absent (delta 24) ≡ Ok (Generic (block 7 fragment ∷ []))
unfolding said blocks_said block_said id_said delta_said kind_said blocks_alone delta_at frags_at frag_at
says_delta = refl

says_tablespace : said forms.Generic (told 0x21 (named 1664 0 0) 32768 ∷ []) Absent (delta 24) ≡ Err whys.Tablespace
unfolding said blocks_said block_said id_said delta_said kind_said blocks_alone delta_at frags_at frag_at
says_tablespace = refl

says_fork : said forms.Generic (told 0x21 (named 1663 0 0) 32768 ∷ []) Absent (delta 24) ≡ Err whys.Fork
unfolding said blocks_said block_said id_said delta_said kind_said blocks_alone delta_at frags_at frag_at
says_fork = refl

says_relation : said forms.Generic (told 0x20 (named 1663 5 0) 32768 ∷ []) Absent (delta 24) ≡ Err whys.Relation
unfolding said blocks_said block_said id_said delta_said kind_said blocks_alone delta_at frags_at frag_at
says_relation = refl

says_range : said forms.Generic (told 0x20 (named 1663 5 16384) 32768 ∷ []) Absent (delta 24) ≡ Err whys.BlockRange
unfolding said blocks_said block_said id_said delta_said kind_said blocks_alone delta_at frags_at frag_at
says_range = refl

says_fragments : said forms.Generic (told 0x20 (named 1663 5 16384) 7 ∷ []) Absent (0x18 ∷ 0x00 ∷ 0x03 ∷ 0x00 ∷ 0xab ∷ 0xcd ∷ []) ≡ Err whys.Fragments
unfolding said blocks_said block_said id_said delta_said kind_said blocks_alone delta_at frags_at frag_at
says_fragments = refl

-- a good block, where entries of the form have none or have no deltas
says_shape : said forms.Shutdown (told 0x20 (named 1663 5 16384) 7 ∷ []) Absent (delta 24) ≡ Err whys.Shape
unfolding said blocks_said block_said id_said delta_said kind_said blocks_alone delta_at frags_at frag_at
says_shape = refl

says_no_image : said forms.Images (told 0x20 (named 1663 5 16384) 7 ∷ []) Absent (delta 24) ≡ Err whys.Shape
unfolding said blocks_said block_said id_said delta_said kind_said blocks_alone delta_at frags_at frag_at
says_no_image = refl

-- no blocks, where entries of the form have some; and any main data of a no-op
says_no_block : said forms.Generic [] Absent [] ≡ Err whys.Shape
unfolding said blocks_said kind_said blocks_alone
says_no_block = refl

says_no_op : said forms.NoOp [] (Short 2) (0xab ∷ 0xcd ∷ []) ≡ Ok NoOp
unfolding said blocks_said kind_said
says_no_op = refl

-- a creation of fork 1
says_create : said forms.Create [] (Short 16) (0x7f ∷ 0x06 ∷ 0x00 ∷ 0x00 ∷ 0x05 ∷ 0x00 ∷ 0x00 ∷ 0x00 ∷ 0x00 ∷ 0x40 ∷ 0x00 ∷ 0x00 ∷ 0x01 ∷ 0x00 ∷ 0x00 ∷ 0x00 ∷ []) ≡ Err whys.Fork
unfolding said blocks_said kind_said creation_said creation_at named_at
says_create = refl
