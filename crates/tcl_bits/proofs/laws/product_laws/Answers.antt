use Rattle.tcl_bits.proofs.Products.{product_law}
use Rattle.tcl_bits.proofs.Words.{product_word}
use Rattle.tcl_bits.proofs.ExactResults.{product_full}
use Rattle.tcl_bits.proofs.laws.product_laws.Goals as goal

pub returns-clause-product : goal.returns-clause-product
returns-clause-product c = product_law

pub returns-clause-product_of_words : goal.returns-clause-product_of_words
returns-clause-product_of_words c = product_word

pub returns-clause-full_product : goal.returns-clause-full_product
returns-clause-full_product c = product_full
