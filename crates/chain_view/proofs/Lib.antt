mod LsnWords
mod NoFloats
